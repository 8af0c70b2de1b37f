use Rattle.std.proofs.Common.{◌≡◌, ◌++◌, drop}
use Rattle.const_value.specs.steps.Intervals as steps
use Rattle.const_value.proofs.intervals.raised.Given as goal

abbrev pub invariant-loop-reach : goal.invariant-loop-reach
invariant-loop-reach l = steps.raised 0 l.sorted ≡ l.made.items ++ steps.raised l.most (drop l.reach-index l.sorted)
