use Rattle.std.proofs.Common.{◌≡◌, ◌-◌}
use Rattle.expr_parse.specs.steps.Combinators.{separated, separated_from}
use Rattle.expr_parse.specs.steps.Reading.{reference}
use Rattle.expr_parse.proofs.expressions.read_references.Given as goal

abbrev pub invariant-loop-turn : goal.invariant-loop-turn
invariant-loop-turn l = separated reference l.fn.cursor ≡ separated_from reference (l._turn-end - l._turn) l.found l.cursor
