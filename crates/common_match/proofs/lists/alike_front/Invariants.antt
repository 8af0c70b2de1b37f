use Rattle.std.proofs.Common.{◌≡◌, ℕ, ◌<◌, slice_get}
use Rattle.common_match.proofs.lists.alike_front.Given as goal

abbrev pub invariant-loop-at : goal.invariant-loop-at
invariant-loop-at l = (before : ℕ) → before < l.at → slice_get l.a before ≡ slice_get l.b before
