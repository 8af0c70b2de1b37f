use Rattle.std.proofs.Common.{◌≡◌, ◌≤◌, ◌++◌, ◌+◌, ◌-◌}
use Rattle.std.specs.List.{flat_map, range_with_len}
use Rattle.decl_table.specs.steps.Blocks.{names_at}
use Rattle.decl_table.proofs.block_names.push_unit_names.Given as goal

abbrev pub invariant-loop-at : goal.invariant-loop-at
invariant-loop-at l =
    (l.at - l.opening ≤ l.unit.ending + 1 - l.opening)
    × (l.found.items ≡ l.initial.found.items ++ flat_map (names_at l.files l.unit.file) (range_with_len l.opening (l.at - l.opening)))
