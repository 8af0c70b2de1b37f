use Rattle.std.proofs.Common.{◌≡◌, ◌++◌, drop}
use Rattle.decl_table.specs.steps.Statements.{beside_by, nothing}
use Rattle.decl_table.proofs.statements.beside_none.Given as goal

abbrev pub invariant-loop-statement : goal.invariant-loop-statement
invariant-loop-statement l = beside_by l.files l.file nothing l.own ≡ l.tokens.items ++ beside_by l.files l.file l.came (drop l.statement-index l.own)
