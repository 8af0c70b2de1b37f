use Rattle.std.proofs.Common.{take}
use Rattle.equiv_class.specs.steps.Lists.{lists_of}
use Rattle.equiv_class.specs.steps.Joining.{IsJoined}
use Rattle.equiv_class.proofs.solving.join_all.Given as goal

abbrev pub invariant-loop-tie : goal.invariant-loop-tie
invariant-loop-tie l = IsJoined l.sizes (take l.tie l.ties) (lists_of l.sequences)
