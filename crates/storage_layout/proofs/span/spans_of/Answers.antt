use Rattle.std.proofs.Common.{◌+◌, subst, sym, List}
use Rattle.storage_layout.specs.declared.span.Span.{Span}
use Rattle.storage_layout.specs.steps.Spans.{AreSpans}
use Rattle.storage_layout.proofs.SpanLists.{spans_more}
use Rattle.storage_layout.proofs.span.spans_of.Goals as goal

pub loop-number-preserved : goal.loop-number-preserved
loop-number-preserved c =
    subst (λ (list : List Span). AreSpans c.args.objects.now c.args.found.now.class.items c.args.found.now.offset.items c.args.group.now (c.loop-number.number + 1) list) (sym c.in_ok-push.ensures.items)
    (spans_more c.args.objects.now c.args.found.now.class.items c.args.found.now.offset.items c.args.group.now c.loop-number.number c.loop-number.spans.items c.span_of.result c.loop-number.invariant c.span_of.ensures)
