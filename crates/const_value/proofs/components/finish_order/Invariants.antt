use Rattle.std.proofs.Common.{◌≤◌, ◌<◌, ◌-◌, ℕ, [], length}
use Rattle.const_value.specs.steps.Lists.{lists_of}
use Rattle.const_value.specs.steps.Searching.{IsMarked, IsSearch}
use Rattle.const_value.proofs.components.finish_order.Given as goal

abbrev pub invariant-loop-at : goal.invariant-loop-at
invariant-loop-at l = record {
  within : l.at ≤ length l.uses;
  search : IsSearch (lists_of l.uses) l.seen.items [] l.order.items;
  below : (number : ℕ) → number < l.at → IsMarked l.seen.items number;
}

abbrev pub decreases-loop-at : goal.decreases-loop-at
decreases-loop-at l = length l.uses - l.at
