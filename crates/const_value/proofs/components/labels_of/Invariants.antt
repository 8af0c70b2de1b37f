use Rattle.std.proofs.Common.{◌≤◌, length, drop, All}
use Rattle.const_value.specs.steps.Labelling.{AreSound, IsLabelled}
use Rattle.const_value.specs.steps.Lists.{lists_of}
use Rattle.const_value.proofs.components.labels_of.Given as goal

abbrev pub invariant-loop-left : goal.invariant-loop-left
invariant-loop-left l = record {
  within : l.left ≤ length l.order;
  sound : AreSound (lists_of l.uses) l.labels.items;
  past : All (IsLabelled l.labels.items) (drop l.left l.order);
}

abbrev pub decreases-loop-left : goal.decreases-loop-left
decreases-loop-left l = l.left
