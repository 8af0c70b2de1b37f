use Rattle.std.proofs.Common.{◌≡◌, take}
use Rattle.std.specs.List.{flat_map}
use Rattle.decl_table.specs.steps.Statements.{givens_in}
use Rattle.decl_table.proofs.statements.givens_among.Given as goal

abbrev pub invariant-loop-statement : goal.invariant-loop-statement
invariant-loop-statement l = l.found.items ≡ flat_map (givens_in l.files l.file) (take l.statement-index l.own)
