use Rattle.std.proofs.Common.{◌≡◌, ◌-◌}
use Rattle.expr_parse.specs.steps.Reading.{powers, powers_from, read}
use Rattle.expr_parse.proofs.rules.Rules.powers.Given as goal

abbrev pub invariant-loop-turn : goal.invariant-loop-turn
invariant-loop-turn g l = powers (read l.self.depth) l.fn.cursor ≡ powers_from (read l.self.depth) (l._turn-end - l._turn) l.steps l.cursor
