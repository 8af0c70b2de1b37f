use Rattle.std.proofs.Common.{take}
use Rattle.module_graph.specs.Uses.{used_lists}
use Rattle.scope_bind.specs.steps.Cycles.{AreAdded}
use Rattle.scope_bind.proofs.cycles.add_user.Given as goal

abbrev pub invariant-loop-used : goal.invariant-loop-used
invariant-loop-used l = AreAdded (take l.used-index l.list) l.user (used_lists l.initial.users) (used_lists l.users)
