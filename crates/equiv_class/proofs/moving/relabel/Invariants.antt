use Rattle.std.proofs.Common.{take}
use Rattle.equiv_class.specs.steps.Lists.{IsMoved}
use Rattle.equiv_class.proofs.moving.relabel.Given as goal

abbrev pub invariant-loop-object : goal.invariant-loop-object
invariant-loop-object l = IsMoved l.initial.label l.initial.place (take l.object-index l.moved) l.to l.up l.down l.label l.place
