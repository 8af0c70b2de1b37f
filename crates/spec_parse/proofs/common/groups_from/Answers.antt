use Rattle.std.proofs.Common.{rules, arith}
use Rattle.std.proofs.lemmas.Grind.{common_steps}
use Rattle.spec_parse.specs.steps.Blocks.{groups_from}
use Rattle.expr_parse.proofs.Turns.{one_more, no_more}
use Rattle.spec_parse.proofs.common.groups_from.Goals as goal

pub returns-in_err-later_group : goal.returns-in_err-later_group
unfolding groups_from
returns-in_err-later_group c =
    let e = one_more (λ n. groups_from n c.turns.found c.turns.cursor) _ c.turns._turn c.turns-test.true c.turns.invariant in
    first_of (search rules, grind (arith, common_steps))

pub returns-then-is_done : goal.returns-then-is_done
unfolding groups_from
returns-then-is_done c =
    let e = one_more (λ n. groups_from n c.turns.found c.turns.cursor) _ c.turns._turn c.turns-test.true c.turns.invariant in
    first_of (search rules, grind (arith, common_steps))

pub turns-preserved : goal.turns-preserved
unfolding groups_from
turns-preserved c =
    let e = one_more (λ n. groups_from n c.turns.found c.turns.cursor) _ c.turns._turn c.turns-test.true c.turns.invariant in
    first_of (search rules, grind (arith, common_steps))

pub returns : goal.returns
unfolding groups_from
returns c =
    let e = no_more (λ n. groups_from n c.turns.found c.turns.cursor) _ c.turns._turn c.turns-test.false c.turns.invariant in
    first_of (search rules, grind (arith, common_steps))
