use Rattle.std.proofs.Common.{◌≡◌, [], replicate}
use Rattle.scope_bind.proofs.exporting.none_of.Given as goal

abbrev pub invariant-loop-at : goal.invariant-loop-at
invariant-loop-at l = l.none.items ≡ replicate l._at []
