use Rattle.std.proofs.Common.{rules, arith}
use Rattle.std.proofs.lemmas.Grind.{common_steps}
use Rattle.spec_parse.specs.steps.Blocks.{members_from}
use Rattle.expr_parse.proofs.Turns.{one_more, no_more}
use Rattle.spec_parse.proofs.common.members.Goals as goal

pub returns-in_err-member : goal.returns-in_err-member
unfolding members_from
returns-in_err-member c =
    let e = one_more (λ n. members_from n c.turns.found c.turns.cursor) _ c.turns._turn c.turns-test.true c.turns.invariant in
    first_of (search rules, grind (arith, common_steps))

pub returns-then-not-goes_on : goal.returns-then-not-goes_on
unfolding members_from
returns-then-not-goes_on c =
    let e = one_more (λ n. members_from n c.turns.found c.turns.cursor) _ c.turns._turn c.turns-test.true c.turns.invariant in
    first_of (search rules, grind (arith, common_steps))

pub turns-preserved : goal.turns-preserved
unfolding members_from
turns-preserved c =
    let e = one_more (λ n. members_from n c.turns.found c.turns.cursor) _ c.turns._turn c.turns-test.true c.turns.invariant in
    first_of (search rules, grind (arith, common_steps))

pub returns : goal.returns
unfolding members_from
returns c =
    let e = no_more (λ n. members_from n c.turns.found c.turns.cursor) _ c.turns._turn c.turns-test.false c.turns.invariant in
    first_of (search rules, grind (arith, common_steps))
