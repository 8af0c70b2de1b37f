use Rattle.std.proofs.Common.{◌≡◌, ◌<◌, length, All}
use Rattle.module_graph.proofs.groups.walk_all.Given as goal

abbrev pub invariant-loop-from : goal.invariant-loop-from
invariant-loop-from l = record {
  sized : length l.marks.items ≡ length l.uses;
  left : All (λ number. number < length l.uses) l.left.items;
}
