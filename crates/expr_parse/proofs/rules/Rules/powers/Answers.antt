use Rattle.std.proofs.Common.{rules, arith}
use Rattle.std.proofs.lemmas.Grind.{common_steps}
use Rattle.expr_parse.specs.steps.Reading.{powers_from, read}
use Rattle.expr_parse.proofs.Turns.{one_more, no_more}
use Rattle.expr_parse.proofs.rules.Rules.powers.Goals as goal

pub returns-in_err-operand : goal.returns-in_err-operand
unfolding powers_from
returns-in_err-operand g c =
    let e = one_more (λ n. powers_from (read c.args.self.now.depth) n c.loop-turn.steps c.loop-turn.cursor) _ c.loop-turn._turn c.loop-turn-test.true c.loop-turn.invariant in
    first_of (search rules, grind (arith, common_steps))

pub returns-then-not-eat : goal.returns-then-not-eat
unfolding powers_from
returns-then-not-eat g c =
    let e = one_more (λ n. powers_from (read c.args.self.now.depth) n c.loop-turn.steps c.loop-turn.cursor) _ c.loop-turn._turn c.loop-turn-test.true c.loop-turn.invariant in
    first_of (search rules, grind (arith, common_steps))

pub loop-turn-preserved : goal.loop-turn-preserved
unfolding powers_from
loop-turn-preserved g c =
    let e = one_more (λ n. powers_from (read c.args.self.now.depth) n c.loop-turn.steps c.loop-turn.cursor) _ c.loop-turn._turn c.loop-turn-test.true c.loop-turn.invariant in
    first_of (search rules, grind (arith, common_steps))

pub returns : goal.returns
unfolding powers_from
returns g c =
    let e = no_more (λ n. powers_from (read c.args.self.now.depth) n c.loop-turn.steps c.loop-turn.cursor) _ c.loop-turn._turn c.loop-turn-test.false c.loop-turn.invariant in
    first_of (search rules, grind (arith, common_steps))
