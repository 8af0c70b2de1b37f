use Rattle.std.proofs.Common.{◌≡◌, [], length, All}
use Rattle.const_value.proofs.components.empty_lists.Given as goal

abbrev pub invariant-loop-number : goal.invariant-loop-number
invariant-loop-number l = record {
  size : length l.lists.items ≡ l._number;
  none : All (λ list. list.items ≡ []) l.lists.items;
}
