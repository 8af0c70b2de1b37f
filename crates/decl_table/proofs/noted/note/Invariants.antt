use Rattle.std.proofs.Common.{◌≡◌, ◌≤◌, ℕ, List, length, drop}
use Rattle.decl_table.specs.steps.Noted.{noted_in, noted_of}
use Rattle.decl_table.proofs.noted.note.Given as goal

abbrev pub invariant-loop-at : goal.invariant-loop-at
invariant-loop-at l = (l.at ≤ length l.own) × ((name : List ℕ) → noted_in l.names name ≡ noted_of l.files l.file name (drop l.at l.own))

abbrev pub decreases-loop-at : goal.decreases-loop-at
decreases-loop-at l = l.at
