use Rattle.module_graph.specs.Uses.{used_lists}
use Rattle.scope_bind.proofs.Marks.{AreUsersTo}
use Rattle.scope_bind.proofs.cycles.users_of.Given as goal

abbrev pub invariant-loop-user : goal.invariant-loop-user
invariant-loop-user l = AreUsersTo l.user (used_lists l.uses) (used_lists l.users.items)
