use Rattle.std.proofs.Common.{◌≡◌, ◌-◌}
use Rattle.expr_parse.specs.steps.Combinators.{separated, separated_from}
use Rattle.exec_parse.specs.steps.Constructs.{case_range}
use Rattle.exec_parse.proofs.cases.read_range_list.Given as goal

abbrev pub invariant-loop-turn : goal.invariant-loop-turn
invariant-loop-turn l = separated case_range l.fn.cursor ≡ separated_from case_range (l._turn-end - l._turn) l.found l.cursor
