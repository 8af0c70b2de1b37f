use Rattle.std.proofs.Common.{◌≡◌, ◌≤◌, ℕ, List, length, drop}
use Rattle.std.specs.List.{position_from}
use Rattle.name_types.specs.steps.Index.{found_in, is_at}
use Rattle.name_types.proofs.index.index.Given as goal

abbrev pub invariant-loop-at : goal.invariant-loop-at
invariant-loop-at l = (l.at ≤ length l.all) × ((u : ℕ) (name : List ℕ) → found_in l.index u name ≡ position_from (is_at u name) l.at (drop l.at l.all))

abbrev pub decreases-loop-at : goal.decreases-loop-at
decreases-loop-at l = l.at
