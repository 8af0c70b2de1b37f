use Rattle.std.proofs.Common.{◌≡◌, take}
use Rattle.std.specs.List.{flat_map}
use Rattle.decl_table.specs.steps.Statements.{access_at}
use Rattle.decl_table.proofs.statements.default_accesses.Given as goal

abbrev pub invariant-loop-statement : goal.invariant-loop-statement
invariant-loop-statement l = l.tokens.items ≡ flat_map (access_at l.files l.file) (take l.statement-index l.own)
