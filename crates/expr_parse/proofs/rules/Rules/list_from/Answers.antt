use Rattle.std.proofs.Common.{rules, arith}
use Rattle.std.proofs.lemmas.Grind.{common_steps}
use Rattle.expr_parse.specs.steps.Combinators.{each_after_comma_from}
use Rattle.ftn_tree.specs.Levels.{loosest}
use Rattle.expr_parse.specs.steps.Reading.{read}
use Rattle.expr_parse.proofs.Turns.{one_more, no_more}
use Rattle.expr_parse.proofs.rules.Rules.list_from.Goals as goal

pub returns-then-not-eat : goal.returns-then-not-eat
unfolding each_after_comma_from
returns-then-not-eat g c =
    let e = one_more (λ n. each_after_comma_from (read c.args.self.now.depth loosest) n c.loop-turn.found c.loop-turn.cursor) _ c.loop-turn._turn c.loop-turn-test.true c.loop-turn.invariant in
    first_of (search rules, grind (arith, common_steps))

pub returns-in_err-read : goal.returns-in_err-read
unfolding each_after_comma_from
returns-in_err-read g c =
    let e = one_more (λ n. each_after_comma_from (read c.args.self.now.depth loosest) n c.loop-turn.found c.loop-turn.cursor) _ c.loop-turn._turn c.loop-turn-test.true c.loop-turn.invariant in
    first_of (search rules, grind (arith, common_steps))

pub loop-turn-preserved : goal.loop-turn-preserved
unfolding each_after_comma_from
loop-turn-preserved g c =
    let e = one_more (λ n. each_after_comma_from (read c.args.self.now.depth loosest) n c.loop-turn.found c.loop-turn.cursor) _ c.loop-turn._turn c.loop-turn-test.true c.loop-turn.invariant in
    first_of (search rules, grind (arith, common_steps))

pub returns : goal.returns
unfolding each_after_comma_from
returns g c =
    let e = no_more (λ n. each_after_comma_from (read c.args.self.now.depth loosest) n c.loop-turn.found c.loop-turn.cursor) _ c.loop-turn._turn c.loop-turn-test.false c.loop-turn.invariant in
    first_of (search rules, grind (arith, common_steps))
