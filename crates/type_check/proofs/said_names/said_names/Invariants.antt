use Rattle.std.proofs.Common.{◌≡◌, ℕ, List, [], take}
use Rattle.ftn_tree.specs.DeclaredEntities.{names_after}
use Rattle.decl_table.specs.steps.Seen.{has_come, is_among}
use Rattle.type_check.specs.steps.SaidNames.{lent}
use Rattle.type_check.proofs.said_names.said_names.Given as goal

abbrev pub invariant-loop-s : goal.invariant-loop-s
invariant-loop-s l =
    (lent l.names.items ≡ names_after [] (take l.s-index l.said)) × ((name : List ℕ) → has_come l.seen name ≡ is_among name (names_after [] (take l.s-index l.said)))
