use Rattle.std.proofs.Common.{length, take}
use Rattle.module_graph.specs.Uses.{AreBelow}
use Rattle.crate_tests.proofs.tests.modules.are_known.Given as goal

abbrev pub invariant-loop-list : goal.invariant-loop-list
invariant-loop-list l = AreBelow (length l.uses) (take l.list-index l.uses)
