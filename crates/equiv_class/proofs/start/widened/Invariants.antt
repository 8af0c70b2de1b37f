use Rattle.std.proofs.Common.{◌≡◌, take}
use Rattle.equiv_class.proofs.start.widened.Given as goal

abbrev pub invariant-loop-size : goal.invariant-loop-size
invariant-loop-size l = l.list.items ≡ take l.size-index l.sizes
