use Rattle.std.proofs.Common.{length, rules}
use Rattle.std.proofs.lemmas.List.Sorted.{IsNonDecreasingBy-from_sort_by_key}
use Rattle.storage_layout.specs.declared.span.Span.{Span}
use Rattle.storage_layout.proofs.SpanLists.{spans_moved}
use Rattle.storage_layout.proofs.span.spans_in_order.Goals as goal

pub returns-clause-spans : goal.returns-clause-spans
returns-clause-spans c =
    spans_moved c.args.objects.now c.args.found.now.class.items c.args.found.now.offset.items c.args.group.now (length c.args.objects.now) c.in_ok-spans.spans.items c.sort_by_key.new.self.items
    c.sort_by_key.ensures.permutation c.in_ok-spans.ensures

pub returns-clause-rising : goal.returns-clause-rising
returns-clause-rising c = IsNonDecreasingBy-from_sort_by_key (λ (span : Span). span.start) _ c.in_ok-sort_by_key.ensures.sorted (λ a r q k. search rules)
