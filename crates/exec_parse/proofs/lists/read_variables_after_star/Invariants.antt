use Rattle.std.proofs.Common.{◌≡◌, ◌-◌}
use Rattle.expr_parse.specs.steps.Combinators.{each_after_comma, each_after_comma_from}
use Rattle.expr_parse.specs.steps.Reading.{reference}
use Rattle.exec_parse.proofs.lists.read_variables_after_star.Given as goal

abbrev pub invariant-loop-turn : goal.invariant-loop-turn
invariant-loop-turn l = each_after_comma reference l.fn.cursor ≡ each_after_comma_from reference (l._turn-end - l._turn) l.found l.cursor
