use Rattle.storage_layout.specs.steps.Spans.{AreSpans}
use Rattle.storage_layout.proofs.span.spans_of.Given as goal

abbrev pub invariant-loop-number : goal.invariant-loop-number
invariant-loop-number l = AreSpans l.objects l.found.class.items l.found.offset.items l.group l.number l.spans.items
