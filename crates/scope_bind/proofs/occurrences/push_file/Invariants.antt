use Rattle.std.proofs.Common.{◌≡◌, ◌-◌, ◌++◌}
use Rattle.std.specs.List.{flat_map, range_with_len}
use Rattle.decl_table.specs.steps.Occurrences.{count_in}
use Rattle.scope_bind.specs.steps.Occurrences.{denoted_at, denoted_in_file}
use Rattle.scope_bind.proofs.occurrences.push_file.Given as goal

abbrev pub invariant-loop-at : goal.invariant-loop-at
invariant-loop-at l =
    l.initial.found.items ++ denoted_in_file l.known.files.now l.file
    ≡ l.found.items ++ flat_map (denoted_at l.known.files.now l.file) (range_with_len l.at (count_in l.file l.known.files.now - l.at))
