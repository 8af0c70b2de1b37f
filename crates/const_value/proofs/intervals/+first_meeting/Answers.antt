use Rattle.std.proofs.Common.{length, ◌/◌, ◌∙◌, ap₂}
use Rattle.const_value.proofs.Meetings.{by_halves, few_met, lesser}
use Rattle.const_value.proofs.intervals.+first_meeting.Goals as goal

pub returns-then-lists-lt2 : goal.returns-then-lists-lt2
returns-then-lists-lt2 t c = few_met (λ list. list.items) c.args.lists.now c.if-lists-lt2.true

pub returns : goal.returns
returns t c =
    c.lesser-2.ensures ∙ ap₂ lesser c.in_ok-across.ensures (c.lesser.ensures ∙ ap₂ lesser c.in_ok-within.ensures c.in_ok-behind.ensures)
    ∙ by_halves (λ list. list.items) c.args.lists.now (length c.args.lists.now / 2)
