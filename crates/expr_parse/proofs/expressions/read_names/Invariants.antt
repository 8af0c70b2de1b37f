use Rattle.std.proofs.Common.{◌≡◌, ◌-◌}
use Rattle.expr_parse.specs.steps.Combinators.{separated, separated_from}
use Rattle.expr_parse.specs.steps.Input.{name}
use Rattle.expr_parse.proofs.expressions.read_names.Given as goal

abbrev pub invariant-loop-turn : goal.invariant-loop-turn
invariant-loop-turn l = separated name l.fn.cursor ≡ separated_from name (l._turn-end - l._turn) l.found l.cursor
