use Rattle.std.proofs.Common.{◌≡◌, ◌+◌, ◌-◌, drop, length}
use Rattle.ftn_tree.specs.Operations.{texts_cmp}
use Rattle.value_ops.proofs.texts.compare.Given as goal

abbrev pub invariant-bytes : goal.invariant-bytes
invariant-bytes l = texts_cmp (drop l.at l.a) (drop l.at l.b) ≡ texts_cmp l.a l.b

abbrev pub decreases-bytes : goal.decreases-bytes
decreases-bytes l = (length l.a + length l.b) - l.at
