use Rattle.std.proofs.Common.{rules, arith}
use Rattle.std.proofs.lemmas.Grind.{common_steps}
use Rattle.spec_parse.specs.steps.Data.{each_from, later_group}
use Rattle.expr_parse.proofs.Turns.{one_more, no_more}
use Rattle.spec_parse.proofs.data.groups_from.Goals as goal

pub returns-in_err-read_later_group : goal.returns-in_err-read_later_group
unfolding each_from
returns-in_err-read_later_group c =
    let e = one_more (λ n. each_from later_group n c.turns.found c.turns.cursor) _ c.turns._turn c.turns-test.true c.turns.invariant in
    first_of (search rules, grind (arith, common_steps))

pub returns-then-is_done : goal.returns-then-is_done
unfolding each_from
returns-then-is_done c =
    let e = one_more (λ n. each_from later_group n c.turns.found c.turns.cursor) _ c.turns._turn c.turns-test.true c.turns.invariant in
    first_of (search rules, grind (arith, common_steps))

pub turns-preserved : goal.turns-preserved
unfolding each_from
turns-preserved c =
    let e = one_more (λ n. each_from later_group n c.turns.found c.turns.cursor) _ c.turns._turn c.turns-test.true c.turns.invariant in
    first_of (search rules, grind (arith, common_steps))

pub returns : goal.returns
unfolding each_from
returns c =
    let e = no_more (λ n. each_from later_group n c.turns.found c.turns.cursor) _ c.turns._turn c.turns-test.false c.turns.invariant in
    first_of (search rules, grind (arith, common_steps))
