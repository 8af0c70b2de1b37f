use Rattle.std.proofs.Common.{◌<◌, ◌∙◌, length, arith}
use Rattle.module_graph.specs.Uses.{used_lists}
use Rattle.module_graph.specs.steps.Waiting.{waiter_lists}
use Rattle.module_graph.proofs.Listing.{lists_length}
use Rattle.module_graph.proofs.Waits.{covered_after, marked_sound, waits_length}
use Rattle.module_graph.proofs.waiting.mark.Goals as goal

pub wake-requires-clause-sound : goal.wake-requires-clause-sound
wake-requires-clause-sound c =
    let uses = used_lists c.args.uses.now in
    let waits = waiter_lists c.args.waiting.now in
    let taken = c.requires.taken in
    let size = lists_length c.args.uses.now in
    let places = waits_length c.args.waiting.now in
    let lt : c.args.number < length c.args.marks.now = omega arith in
    let within : c.args.number < length waits = omega arith in
    rw c.take_waiters-woken.ensures.left (marked_sound uses c.args.marks.now waits c.args.ready.now.keys taken.sound c.args.number lt within taken.taken)

pub returns-clause-covered : goal.returns-clause-covered
returns-clause-covered c =
    let uses = used_lists c.args.uses.now in
    let waits = waiter_lists c.args.waiting.now in
    let taken = c.requires.taken in
    let size = lists_length c.args.uses.now in
    let places = waits_length c.args.waiting.now in
    let lt : c.args.number < length c.args.marks.now = omega arith in
    let within : c.args.number < length waits = omega arith in
    let woken = c.deref.ensures.value ∙ c.take_waiters-woken.ensures.taken in
    covered_after uses c.args.marks.now waits c.args.ready.now.keys taken.sound c.args.number lt within (waiter_lists c.wake.new.waiting) c.wake.new.ready.keys
    (rw c.take_waiters-woken.ensures.left at c.in_ok-wake.ensures.kept)
    (rw woken at c.in_ok-wake.ensures.here) taken.others
