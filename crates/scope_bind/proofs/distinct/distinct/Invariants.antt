use Rattle.std.proofs.Common.{◌≡◌, ℕ, List, [], take}
use Rattle.std.specs.Str.{bytes_eq}
use Rattle.indexmap.specs.IndexSet.{insert_all}
use Rattle.decl_table.specs.steps.Seen.{has_come, is_among}
use Rattle.scope_bind.specs.steps.Owned.{names_at}
use Rattle.scope_bind.proofs.distinct.distinct.Given as goal

abbrev pub invariant-loop-token : goal.invariant-loop-token
invariant-loop-token l =
    (names_at l.files l.file l.made.items ≡ insert_all bytes_eq [] (names_at l.files l.file (take l.token-index l.tokens)))
    × ((name : List ℕ) → has_come l.seen name ≡ is_among name (names_at l.files l.file l.made.items))
