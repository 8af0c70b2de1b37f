use Rattle.std.proofs.Common.{◌≡◌, ◌+◌, ◌-◌, ◌++◌}
use Rattle.std.specs.List.{flat_map, range_with_len}
use Rattle.ftn_tree.specs.Scopes.{all_statements}
use Rattle.scope_bind.specs.steps.Uses.{used_at}
use Rattle.scope_bind.proofs.uses.used_in.Given as goal

abbrev pub invariant-loop-at : goal.invariant-loop-at
invariant-loop-at l =
    flat_map (used_at l.known.files.now l.unit.file) (all_statements l.unit)
    ≡ l.used.items ++ flat_map (used_at l.known.files.now l.unit.file) (range_with_len l.at (l.unit.ending + 1 - l.at))
