use Rattle.std.proofs.Common.{◌<◌, length, All}
use Rattle.module_graph.specs.Uses.{used_lists}
use Rattle.module_graph.specs.steps.Marks.{IsEntry, to_do}
use Rattle.module_graph.proofs.groups.walk_from.Given as goal

abbrev pub invariant-steps : goal.invariant-steps
invariant-steps l = record {
  entries : All (IsEntry (used_lists l.uses) l.marks) l.path.items;
  left : All (λ number. number < length l.uses) l.left.items;
}

abbrev pub decreases-steps : goal.decreases-steps
decreases-steps l = to_do l.marks l.path.items
