use Rattle.std.proofs.Common.{◌≡◌, ◌≤◌, ◌-◌, drop, length}
use Rattle.ftn_tool.specs.Rising.{rising}
use Rattle.ftn_tool.proofs.order.are_rising.Given as goal

abbrev pub invariant-pairs : goal.invariant-pairs
invariant-pairs l = record {
  within : l.at ≤ length l.names;
  holds : rising l.names ≡ rising (drop l.at l.names);
}

abbrev pub decreases-pairs : goal.decreases-pairs
decreases-pairs l = length l.names - l.at
