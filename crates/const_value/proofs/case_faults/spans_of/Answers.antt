use Rattle.std.proofs.Common.{[]}
use Rattle.std.specs.List.{cons_option}
use Rattle.const_value.specs.steps.Cases.{spans_of}
use Rattle.const_value.specs.steps.Measuring.{given}
use Rattle.const_value.proofs.KeptSpans.{range_more}
use Rattle.const_value.proofs.case_faults.spans_of.Goals as goal

pub loop-range-preserved : goal.loop-range-preserved
loop-range-preserved c =
    range_more (spans_of (given c.args.view.now)) c.args.ranges.now c.loop-range.range-index c.range-item.result c.loop-range.spans.items c.push_if.new.spans.items (cons_option c.in_ok-span.span [])
    c.loop-range-test.true c.range-item.is c.loop-range.invariant c.in_ok-span.ensures c.in_ok-push_if.ensures
