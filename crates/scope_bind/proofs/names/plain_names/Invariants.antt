use Rattle.std.proofs.Common.{◌≡◌, ◌≤◌, ℕ, List, length, drop}
use Rattle.std.specs.List.{list_any}
use Rattle.decl_table.specs.steps.Seen.{has_come}
use Rattle.scope_bind.specs.steps.Known.{is_plain_of}
use Rattle.scope_bind.proofs.names.plain_names.Given as goal

abbrev pub invariant-loop-at : goal.invariant-loop-at
invariant-loop-at l = (l.at ≤ length l.own) × ((name : List ℕ) → has_come l.seen name ≡ list_any (is_plain_of l.files l.file name) (drop l.at l.own))

abbrev pub decreases-loop-at : goal.decreases-loop-at
decreases-loop-at l = l.at
