use Rattle.std.proofs.Common.{◌∙◌, ap, map}
use Rattle.std.proofs.lemmas.List.{take_all}
use Rattle.const_value.specs.steps.Intervals.{all_of, least, raised, tokens_by}
use Rattle.const_value.proofs.Meetings.{lesser}
use Rattle.const_value.proofs.MeetingTurns.{across_turn, in_order}
use Rattle.const_value.proofs.intervals.first_across.Goals as goal

pub loop-list-preserved : goal.loop-list-preserved
loop-list-preserved c = λ ends rising same.
    across_turn (λ list. list.items) ends c.args.later.now c.loop-list.list-index c.list-item.result c.loop-list.first c.first_in-first.result c.loop-list-test.true c.list-item.is
    (c.loop-list.invariant ends rising same)
    (c.first_in-first.ensures ends rising (c.deref-in-loop-list.ensures.value ∙ same)
    ∙ ap (λ xs. lesser c.loop-list.first (least (tokens_by ends xs))) c.deref-in-loop-list-2.ensures.value)

pub returns : goal.returns
returns c =
    let sorted = c.in_ok-sorted.sorted.items in
    c.loop-list.invariant sorted c.in_ok-sorted.ensures.rising (c.in_ok-ends.ensures ∙ ap (raised 0) c.deref.ensures.value)
    ∙ ap (λ lists. least (tokens_by sorted (all_of (map (λ list. list.items) lists)))) (take_all c.loop-list.list-index c.args.later.now c.loop-list-test.false)
    ∙ ap least (in_order sorted (all_of (map (λ list. list.items) c.args.earlier.now)) (all_of (map (λ list. list.items) c.args.later.now)) c.in_ok-sorted.ensures.all)
