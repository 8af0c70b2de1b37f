use Rattle.std.proofs.Common.{rules, arith}
use Rattle.std.proofs.lemmas.Grind.{common_steps}
use Rattle.expr_parse.specs.steps.Combinators.{each_after_comma_from}
use Rattle.expr_parse.proofs.Turns.{one_more, no_more}
use Rattle.expr_parse.proofs.list.each_after_comma.Goals as goal

pub returns-in_err-read : goal.returns-in_err-read
unfolding each_after_comma_from
returns-in_err-read g c reader reads =
    let e = one_more (λ n. each_after_comma_from reader n c.turns.found c.turns.cursor) _ c.turns._turn c.turns-test.true (c.turns.invariant reader reads) in
    let read = reads _ _ _ _ c.in_err-read.ensures in
    first_of (search rules, grind (arith, common_steps))

pub returns-then-not-eat : goal.returns-then-not-eat
unfolding each_after_comma_from
returns-then-not-eat g c reader reads =
    let e = one_more (λ n. each_after_comma_from reader n c.turns.found c.turns.cursor) _ c.turns._turn c.turns-test.true (c.turns.invariant reader reads) in
    first_of (search rules, grind (arith, common_steps))

pub turns-preserved : goal.turns-preserved
unfolding each_after_comma_from
turns-preserved g c reader reads =
    let e = one_more (λ n. each_after_comma_from reader n c.turns.found c.turns.cursor) _ c.turns._turn c.turns-test.true (c.turns.invariant reader reads) in
    let read = reads _ _ _ _ c.in_ok-read.ensures in
    first_of (search rules, grind (arith, common_steps))

pub returns : goal.returns
unfolding each_after_comma_from
returns g c reader reads =
    let e = no_more (λ n. each_after_comma_from reader n c.turns.found c.turns.cursor) _ c.turns._turn c.turns-test.false (c.turns.invariant reader reads) in
    first_of (search rules, grind (arith, common_steps))
