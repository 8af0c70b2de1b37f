use Rattle.std.proofs.Common.{length}
use Rattle.module_graph.proofs.Known.{below_known}
use Rattle.module_graph.proofs.groups.users_of.Goals as goal

pub returns-clause-known : goal.returns-clause-known
returns-clause-known c = below_known c.loop-user.users.items (length c.args.uses.now) c.loop-user.invariant.size c.loop-user.invariant.below
