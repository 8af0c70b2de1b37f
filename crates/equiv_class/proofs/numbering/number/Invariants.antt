use Rattle.equiv_class.specs.steps.Numbers.{IsNumbering}
use Rattle.equiv_class.proofs.numbering.number.Given as goal

abbrev pub invariant-loop-one : goal.invariant-loop-one
invariant-loop-one l = IsNumbering l.label l.one-index l.numbers.items l.class.items l.order.items
