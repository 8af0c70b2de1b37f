use Rattle.std.proofs.Common.{◌<◌, get_or, arith}
use Rattle.std.proofs.lemmas.Grind.{common_steps}
use Rattle.module_graph.proofs.Known.{below_next, below_whole}
use Rattle.crate_tests.proofs.tests.modules.is_below.Goals as goal

pub loop-used-preserved : goal.loop-used-preserved
loop-used-preserved c =
    let i = c.loop-used.used-index in
    let below : get_or c.args.list.now i 0 < c.args.count = grind (arith, common_steps) in
    below_next c.args.count c.args.list.now i c.loop-used-test.true below c.loop-used.invariant

pub returns : goal.returns
returns c = λ _. below_whole c.args.count c.args.list.now c.loop-used.used-index c.loop-used-test.false c.loop-used.invariant
