use Rattle.std.proofs.Common.{◌≡◌, [], length, All}
use Rattle.scope_bind.proofs.cycles.empty_lists.Given as goal

abbrev pub invariant-loop-module : goal.invariant-loop-module
invariant-loop-module l = record {
  size : length l.lists.items ≡ l._module;
  none : All (λ list. list.items ≡ []) l.lists.items;
}
