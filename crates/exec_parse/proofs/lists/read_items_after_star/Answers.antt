use Rattle.std.proofs.Common.{rules, arith}
use Rattle.std.proofs.lemmas.Grind.{common_steps}
use Rattle.expr_parse.specs.steps.Combinators.{each_after_comma_from}
use Rattle.expr_parse.specs.steps.Reading.{expression}
use Rattle.exec_parse.specs.steps.Lists.{items_after_star}
use Rattle.expr_parse.proofs.Turns.{one_more, no_more}
use Rattle.exec_parse.proofs.lists.read_items_after_star.Goals as goal

pub returns-then-not-eat : goal.returns-then-not-eat
unfolding each_after_comma_from items_after_star
returns-then-not-eat c =
    let e = one_more (λ n. each_after_comma_from expression n c.loop-turn.found c.loop-turn.cursor) _ c.loop-turn._turn c.loop-turn-test.true c.loop-turn.invariant in
    first_of (search rules, grind (arith, common_steps))

pub returns-in_err-read_expression : goal.returns-in_err-read_expression
unfolding each_after_comma_from items_after_star
returns-in_err-read_expression c =
    let e = one_more (λ n. each_after_comma_from expression n c.loop-turn.found c.loop-turn.cursor) _ c.loop-turn._turn c.loop-turn-test.true c.loop-turn.invariant in
    first_of (search rules, grind (arith, common_steps))

pub loop-turn-preserved : goal.loop-turn-preserved
unfolding each_after_comma_from items_after_star
loop-turn-preserved c =
    let e = one_more (λ n. each_after_comma_from expression n c.loop-turn.found c.loop-turn.cursor) _ c.loop-turn._turn c.loop-turn-test.true c.loop-turn.invariant in
    first_of (search rules, grind (arith, common_steps))

pub returns : goal.returns
unfolding each_after_comma_from items_after_star
returns c =
    let e = no_more (λ n. each_after_comma_from expression n c.loop-turn.found c.loop-turn.cursor) _ c.loop-turn._turn c.loop-turn-test.false c.loop-turn.invariant in
    first_of (search rules, grind (arith, common_steps))
