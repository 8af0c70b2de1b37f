use Rattle.std.proofs.Common.{take}
use Rattle.std.specs.List.{flat_map}
use Rattle.const_value.specs.steps.Cases.{AreKept, spans_of}
use Rattle.const_value.specs.steps.Measuring.{given}
use Rattle.const_value.proofs.case_faults.spans_of.Given as goal

abbrev pub invariant-loop-range : goal.invariant-loop-range
invariant-loop-range l = AreKept (flat_map (spans_of (given l.view)) (take l.range-index l.ranges)) l.spans.items
