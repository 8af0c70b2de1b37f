use Rattle.std.proofs.Common.{length, ◌-◌, ◌≡◌, drop}
use Rattle.unit_parse.specs.steps.Following as spec
use Rattle.unit_parse.proofs.order.follow.Given as goal

-- what is left of the sections decides as all of them do
abbrev pub invariant-loop-at : goal.invariant-loop-at
invariant-loop-at l = spec.follow (drop l.fn.stage l.sections) l.fn.stage l.mark ≡ spec.follow (drop l.at l.sections) l.at l.mark

abbrev pub decreases-loop-at : goal.decreases-loop-at
decreases-loop-at l = length l.sections - l.at
