use Rattle.std.proofs.Common.{◌≡◌, length}
use Rattle.module_graph.specs.Uses.{AreBelow}
use Rattle.module_graph.proofs.groups.users_of.Given as goal

abbrev pub invariant-loop-user : goal.invariant-loop-user
invariant-loop-user l = record {
  size : length l.users.items ≡ length l.uses;
  below : AreBelow (length l.uses) l.users.items;
}
