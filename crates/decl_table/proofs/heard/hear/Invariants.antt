use Rattle.std.proofs.Common.{◌≡◌, ◌≤◌, ℕ, List, length, drop}
use Rattle.std.specs.List.{filter}
use Rattle.ftn_tree.specs.Sayings.{same_name}
use Rattle.decl_table.specs.steps.Heard.{heard_in, heard_of}
use Rattle.decl_table.proofs.heard.hear.Given as goal

abbrev pub invariant-loop-at : goal.invariant-loop-at
invariant-loop-at l = (l.at ≤ length l.said) × ((name : List ℕ) → heard_in l.names name ≡ heard_of (filter (same_name name) (drop l.at l.said)))

abbrev pub decreases-loop-at : goal.decreases-loop-at
decreases-loop-at l = l.at
