use Rattle.std.proofs.Common.{◌≡◌, ◌<◌, ℕ, [], ◌∷◌, length}
use Rattle.equiv_class.specs.steps.Lists.{member_lists, members_of}
use Rattle.equiv_class.proofs.start.singles.Given as goal

abbrev pub invariant-loop-number : goal.invariant-loop-number
invariant-loop-number l = (length l.lists.items ≡ l.number) × ((v : ℕ) → v < l.number → members_of (member_lists l.lists.items) v ≡ v ∷ [])
