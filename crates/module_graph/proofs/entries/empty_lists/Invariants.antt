use Rattle.std.proofs.Common.{◌≡◌, [], length, All}
use Rattle.module_graph.proofs.entries.empty_lists.Given as goal

abbrev pub invariant-loop-place : goal.invariant-loop-place
invariant-loop-place g l = record {
  size : length l.lists.items ≡ l._place;
  none : All (λ list. list.items ≡ []) l.lists.items;
}
