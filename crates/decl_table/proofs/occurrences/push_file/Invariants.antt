use Rattle.std.proofs.Common.{◌≡◌, ◌-◌, ◌++◌}
use Rattle.std.specs.List.{flat_map, range_with_len}
use Rattle.decl_table.specs.steps.Occurrences.{count_in, occurrences_at}
use Rattle.decl_table.proofs.occurrences.push_file.Given as goal

abbrev pub invariant-loop-at : goal.invariant-loop-at
invariant-loop-at l =
    l.initial.found.items ++ flat_map (occurrences_at l.files l.file) (range_with_len 0 (count_in l.file l.files))
    ≡ l.found.items ++ flat_map (occurrences_at l.files l.file) (range_with_len l.at (count_in l.file l.files - l.at))
