use Rattle.std.proofs.Common.{◌≡◌, ◌+◌, ◌-◌, ◌++◌}
use Rattle.std.specs.List.{filter, range_with_len}
use Rattle.decl_table.specs.steps.Rows.{number_at}
use Rattle.decl_table.specs.steps.Following.{is_number, own_by}
use Rattle.decl_table.proofs.own.own_statements.Given as goal

abbrev pub invariant-loop-at : goal.invariant-loop-at
invariant-loop-at l =
    own_by l.number l.unit l.rows
    ≡ l.own.items ++ filter (λ statement. is_number l.number (number_at l.rows l.unit.file statement)) (range_with_len l.at (l.unit.ending + 1 - l.at))
