use Rattle.std.proofs.Common.{◌≡◌, ◌++◌, drop}
use Rattle.const_value.specs.steps.Giving.{statements_fit, statements_given}
use Rattle.const_value.specs.steps.Telling.{sight_of}
use Rattle.const_value.proofs.given_files.push_statements.Given as goal

abbrev pub invariant-loop-statement : goal.invariant-loop-statement
invariant-loop-statement l = record {
  given : l.initial.found.items ++ statements_given (sight_of l.view) l.rows l.bodies 0 l.statements ≡ l.found.items ++ statements_given (sight_of l.view) l.rows l.bodies l.at (drop l.statement-index l.statements);
  fits : statements_fit (sight_of l.view) l.rows l.bodies 0 l.statements ≡ statements_fit (sight_of l.view) l.rows l.bodies l.at (drop l.statement-index l.statements);
}
