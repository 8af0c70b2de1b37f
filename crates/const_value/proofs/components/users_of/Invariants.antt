use Rattle.const_value.specs.steps.Lists.{lists_of}
use Rattle.const_value.proofs.Users.{AreUsersTo}
use Rattle.const_value.proofs.components.users_of.Given as goal

abbrev pub invariant-loop-user : goal.invariant-loop-user
invariant-loop-user l = AreUsersTo l.user (lists_of l.uses) (lists_of l.users.items)
