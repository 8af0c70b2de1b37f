use Rattle.std.proofs.Common.{length}
use Rattle.module_graph.specs.Uses.{AreBelow}
use Rattle.module_graph.proofs.groups.add_user.Given as goal

abbrev pub invariant-loop-used : goal.invariant-loop-used
invariant-loop-used l = AreBelow (length l.initial.users) l.users
