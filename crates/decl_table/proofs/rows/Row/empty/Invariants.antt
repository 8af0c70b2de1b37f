use Rattle.std.proofs.Common.{◌≡◌, None}
use Rattle.std.specs.Prelude.{replicate}
use Rattle.decl_table.proofs.rows.Row.empty.Given as goal

abbrev pub invariant-loop : goal.invariant-loop
invariant-loop l = l.of.items ≡ replicate l.counter None
