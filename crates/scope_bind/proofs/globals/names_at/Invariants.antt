use Rattle.std.proofs.Common.{◌≡◌, ◌≤◌, ℕ, List, length, drop}
use Rattle.std.specs.List.{list_any}
use Rattle.std.specs.Str.{bytes_eq}
use Rattle.ftn_tree.specs.Scopes.{name_at}
use Rattle.decl_table.specs.steps.Seen.{has_come}
use Rattle.scope_bind.proofs.globals.names_at.Given as goal

abbrev pub invariant-loop-at : goal.invariant-loop-at
invariant-loop-at l =
    (l.at ≤ length l.tokens) × ((name : List ℕ) → has_come l.seen name ≡ list_any (λ at. bytes_eq (name_at l.files at.file at.token) name) (drop l.at l.tokens))

abbrev pub decreases-loop-at : goal.decreases-loop-at
decreases-loop-at l = l.at
