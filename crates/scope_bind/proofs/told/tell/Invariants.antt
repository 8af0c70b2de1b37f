use Rattle.std.proofs.Common.{◌≡◌, ◌≤◌, ℕ, List, length, drop}
use Rattle.std.specs.List.{filter}
use Rattle.ftn_tree.specs.Sayings.{same_name}
use Rattle.scope_bind.specs.steps.Told.{told_in, told_of}
use Rattle.scope_bind.proofs.told.tell.Given as goal

abbrev pub invariant-loop-at : goal.invariant-loop-at
invariant-loop-at l = (l.at ≤ length l.said) × ((name : List ℕ) → told_in l.names name ≡ told_of (filter (same_name name) (drop l.at l.said)))

abbrev pub decreases-loop-at : goal.decreases-loop-at
decreases-loop-at l = l.at
