use Rattle.std.proofs.Common.{arith}
use Rattle.ftn_tool.proofs.Rising.{ended}
use Rattle.ftn_tool.proofs.order.are_rising.Goals as goal

pub returns : goal.returns
returns c = ended c.args.names.now c.pairs.at (omega arith) c.pairs.invariant.holds
