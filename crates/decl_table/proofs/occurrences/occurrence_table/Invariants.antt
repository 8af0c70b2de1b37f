use Rattle.std.proofs.Common.{◌≡◌, ◌++◌, drop}
use Rattle.std.specs.List.{flat_map, enumerate_from}
use Rattle.ftn_tree.specs.DeclaredEntities.{occurrences_of, occurrences_in}
use Rattle.decl_table.proofs.occurrences.occurrence_table.Given as goal

abbrev pub invariant-loop-at : goal.invariant-loop-at
invariant-loop-at l = occurrences_of l.files ≡ l.found.items ++ flat_map (λ one. occurrences_in l.files one.0 one.1) (enumerate_from l.at (drop l.at l.files))
