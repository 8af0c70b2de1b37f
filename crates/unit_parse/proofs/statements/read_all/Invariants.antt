use Rattle.std.proofs.Common.{◌≡◌, length, take}
use Rattle.unit_parse.specs.steps.Progress.{Holds}
use Rattle.unit_parse.proofs.statements.read_all.Given as goal

-- the statements before are read
abbrev pub invariant-loop-at : goal.invariant-loop-at
invariant-loop-at l = Holds l.tokens (take l.at-index l.tokens.statements) l.reading × (length l.reading.statements ≡ l.at-index)
