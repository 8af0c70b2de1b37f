use Rattle.std.proofs.Common.{◌≡◌, ◌+◌, ◌-◌, ◌≤◌, length, drop}
use Rattle.ftn_tree.specs.Intrinsics as spec
use Rattle.value_ops.proofs.intrinsics.index.Given as goal

abbrev pub invariant-starts : goal.invariant-starts
invariant-starts l = (l.at ≤ length l.text) × (spec.index_from 1 l.part l.text ≡ spec.index_from (l.at + 1) l.part (drop l.at l.text))

abbrev pub decreases-starts : goal.decreases-starts
decreases-starts l = length l.text - l.at
