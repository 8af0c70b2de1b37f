use Rattle.std.proofs.Common.{◌∙◌, ap}
use Rattle.const_value.proofs.Meetings.{lesser}
use Rattle.const_value.proofs.MeetingTurns.{first_turn}
use Rattle.const_value.proofs.intervals.first_in.Goals as goal

pub loop-span-preserved : goal.loop-span-preserved
loop-span-preserved c = λ ends rising same.
    first_turn ends c.args.list.now c.loop-span.span-index (record { token = 0; low = 0; high = 0 }) c.args.first c.loop-span.first c.lesser-first.result c.loop-span-test.true
    (c.loop-span.invariant ends rising same) (c.lesser-first.ensures ∙ ap (lesser c.loop-span.first) (c.token_if.ensures ends rising same))
