use Rattle.std.proofs.Common.{rules, arith}
use Rattle.std.proofs.lemmas.Grind.{common_steps}
use Rattle.expr_parse.specs.steps.Combinators.{separated_from}
use Rattle.expr_parse.specs.steps.Reading.{reference}
use Rattle.expr_parse.proofs.Turns.{one_more, no_more}
use Rattle.expr_parse.proofs.expressions.read_references.Goals as goal

pub returns-in_err-read_reference : goal.returns-in_err-read_reference
unfolding separated_from
returns-in_err-read_reference c =
    let e = one_more (λ n. separated_from reference n c.loop-turn.found c.loop-turn.cursor) _ c.loop-turn._turn c.loop-turn-test.true c.loop-turn.invariant in
    first_of (search rules, grind (arith, common_steps))

pub returns-then-not-eat : goal.returns-then-not-eat
unfolding separated_from
returns-then-not-eat c =
    let e = one_more (λ n. separated_from reference n c.loop-turn.found c.loop-turn.cursor) _ c.loop-turn._turn c.loop-turn-test.true c.loop-turn.invariant in
    first_of (search rules, grind (arith, common_steps))

pub loop-turn-preserved : goal.loop-turn-preserved
unfolding separated_from
loop-turn-preserved c =
    let e = one_more (λ n. separated_from reference n c.loop-turn.found c.loop-turn.cursor) _ c.loop-turn._turn c.loop-turn-test.true c.loop-turn.invariant in
    first_of (search rules, grind (arith, common_steps))

pub returns : goal.returns
unfolding separated_from
returns c =
    let e = no_more (λ n. separated_from reference n c.loop-turn.found c.loop-turn.cursor) _ c.loop-turn._turn c.loop-turn-test.false c.loop-turn.invariant in
    first_of (search rules, grind (arith, common_steps))
