use Rattle.std.proofs.Common.{◌≡◌, ◌-◌}
use Rattle.expr_parse.specs.steps.Combinators.{separated, separated_from}
use Rattle.expr_parse.specs.steps.Reading.{expression}
use Rattle.expr_parse.proofs.expressions.read_expressions.Given as goal

abbrev pub invariant-loop-turn : goal.invariant-loop-turn
invariant-loop-turn l = separated expression l.fn.cursor ≡ separated_from expression (l._turn-end - l._turn) l.found l.cursor
