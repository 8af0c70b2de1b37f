use Rattle.std.proofs.Common.{◌≡◌, drop}
use Rattle.ftn_tree.specs.Intrinsics as spec
use Rattle.value_ops.proofs.intrinsics.greatest.Given as goal

abbrev pub invariant-loop-other : goal.invariant-loop-other
invariant-loop-other l = spec.picked spec.greater l.greatest (drop l.other-index l.others) ≡ spec.picked spec.greater l.first l.others
