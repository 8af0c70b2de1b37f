use Rattle.std.proofs.Common.{take}
use Rattle.const_value.specs.steps.Labelling.{AreAdded}
use Rattle.const_value.specs.steps.Lists.{lists_of}
use Rattle.const_value.proofs.components.add_user.Given as goal

abbrev pub invariant-loop-used : goal.invariant-loop-used
invariant-loop-used l = AreAdded (take l.used-index l.list) l.user (lists_of l.initial.users) (lists_of l.users)
