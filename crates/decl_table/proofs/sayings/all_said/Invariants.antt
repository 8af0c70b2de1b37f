use Rattle.std.proofs.Common.{◌≡◌, ◌+◌, ◌-◌, ◌++◌}
use Rattle.std.specs.List.{flat_map, range_with_len}
use Rattle.ftn_tree.specs.Sayings.{said_at}
use Rattle.ftn_tree.specs.Scopes.{all_statements}
use Rattle.decl_table.proofs.sayings.all_said.Given as goal

abbrev pub invariant-loop-at : goal.invariant-loop-at
invariant-loop-at l =
    flat_map (said_at l.files l.unit) (all_statements l.unit) ≡ l.said.items ++ flat_map (said_at l.files l.unit) (range_with_len l.at (l.unit.ending + 1 - l.at))
