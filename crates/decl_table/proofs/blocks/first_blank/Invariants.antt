use Rattle.std.proofs.Common.{◌≡◌, ◌+◌, ◌-◌}
use Rattle.std.specs.List.{find, range_with_len}
use Rattle.ftn_tree.specs.DeclaredEntities.{lists_blank_at}
use Rattle.ftn_tree.specs.Extents.{layer_at}
use Rattle.ftn_tree.specs.Scopes.{all_statements}
use Rattle.decl_table.proofs.blocks.first_blank.Given as goal

abbrev pub invariant-loop-at : goal.invariant-loop-at
invariant-loop-at l =
    find (λ statement. lists_blank_at (layer_at l.files l.unit.file statement)) (all_statements l.unit)
    ≡ find (λ statement. lists_blank_at (layer_at l.files l.unit.file statement)) (range_with_len l.at (l.unit.ending + 1 - l.at))
