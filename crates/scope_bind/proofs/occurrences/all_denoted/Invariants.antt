use Rattle.std.proofs.Common.{◌≡◌, ◌-◌, ◌++◌, length}
use Rattle.std.specs.List.{flat_map, range_with_len}
use Rattle.scope_bind.specs.steps.Occurrences.{denoted_in_file}
use Rattle.scope_bind.proofs.occurrences.all_denoted.Given as goal

abbrev pub invariant-loop-at : goal.invariant-loop-at
invariant-loop-at l =
    flat_map (denoted_in_file l.known.files.now) (range_with_len 0 (length l.known.files.now))
    ≡ l.found.items ++ flat_map (denoted_in_file l.known.files.now) (range_with_len l.at (length l.known.files.now - l.at))
