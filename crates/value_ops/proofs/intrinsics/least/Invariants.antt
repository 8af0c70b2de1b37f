use Rattle.std.proofs.Common.{◌≡◌, drop}
use Rattle.ftn_tree.specs.Intrinsics as spec
use Rattle.value_ops.proofs.intrinsics.least.Given as goal

abbrev pub invariant-loop-other : goal.invariant-loop-other
invariant-loop-other l = spec.picked spec.lesser l.least (drop l.other-index l.others) ≡ spec.picked spec.lesser l.first l.others
