use Rattle.module_graph.proofs.Known.{lists_known}
use Rattle.crate_tests.proofs.tests.modules.are_known.Goals as goal

pub returns : goal.returns
returns c = λ _. lists_known c.args.uses.now c.loop-list.list-index c.loop-list-test.false c.loop-list.invariant
