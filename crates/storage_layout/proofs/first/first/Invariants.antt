use Rattle.std.proofs.Common.{◌-◌, ◌≤◌, ◌<◌}
use Rattle.storage_layout.specs.steps.Held.{Holds, count_of}
use Rattle.storage_layout.proofs.first.first.Given as goal

abbrev pub invariant-loop-low : goal.invariant-loop-low
invariant-loop-low l = record {
  below : l.low < l.high;
  within : l.high ≤ count_of l.things l.kind;
  with_high : Holds l.objects l.things l.kind l.high;
  without : Holds l.objects l.things l.kind l.low → ⊥;
}

abbrev pub decreases-loop-low : goal.decreases-loop-low
decreases-loop-low l = l.high - l.low
