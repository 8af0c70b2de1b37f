use Rattle.std.proofs.Common.{◌≡◌, ◌-◌}
use Rattle.expr_parse.specs.steps.Reading.{operators, climb, read}
use Rattle.expr_parse.proofs.rules.Rules.operators.Given as goal

abbrev pub invariant-loop-turn : goal.invariant-loop-turn
invariant-loop-turn g l = operators (read l.self.depth) l.most l.fn.own l.fn.first l.fn.cursor ≡ climb (read l.self.depth) (l._turn-end - l._turn) l.most l.own l.left l.cursor
