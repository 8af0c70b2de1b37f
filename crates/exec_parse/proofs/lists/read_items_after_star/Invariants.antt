use Rattle.std.proofs.Common.{◌≡◌, ◌-◌}
use Rattle.expr_parse.specs.steps.Combinators.{each_after_comma, each_after_comma_from}
use Rattle.expr_parse.specs.steps.Reading.{expression}
use Rattle.exec_parse.proofs.lists.read_items_after_star.Given as goal

abbrev pub invariant-loop-turn : goal.invariant-loop-turn
invariant-loop-turn l = each_after_comma expression l.fn.cursor ≡ each_after_comma_from expression (l._turn-end - l._turn) l.found l.cursor
