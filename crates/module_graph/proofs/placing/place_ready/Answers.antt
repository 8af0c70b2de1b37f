use Rattle.std.proofs.Common.{◌≡◌, length, sym, arith, inl, inr}
use Rattle.std.proofs.lemmas.Bool.{cases_lt, false≢true}
use Rattle.std.proofs.lemmas.List.{nil_from_length}
use Rattle.module_graph.specs.Uses.{used_lists}
use Rattle.module_graph.specs.steps.Waiting.{waiter_lists}
use Rattle.module_graph.proofs.Listing.{lists_length}
use Rattle.module_graph.proofs.Marking.{all_unmarked}
use Rattle.module_graph.proofs.Waits.{goes_on, going_first, is_taken, none_ready, nothing_yet, turn_nearer, waits_length}
use Rattle.module_graph.proofs.placing.place_ready.Goals as goal

pub mark-requires-clause-taken : goal.mark-requires-clause-taken
mark-requires-clause-taken c =
    is_taken (used_lists c.args.uses.now) c.places.list.items c.places.marks (waiter_lists c.places.waiting) c.places.ready.keys c.take_least.new.ready.keys c.in-Some.number
    c.places.invariant c.in-Some.ensures.removal c.in-Some.ensures.above

pub places-smaller : goal.places-smaller
places-smaller c =
    turn_nearer (used_lists c.args.uses.now) c.places.list.items c.places.marks (waiter_lists c.places.waiting) c.places.ready.keys c.take_least.new.ready.keys c.in-Some.number
    c.places.invariant c.in-Some.ensures.removal c.in-Some.ensures.above c.mark.new.marks c.in_ok-mark.ensures.marks

pub places-preserved : goal.places-preserved
places-preserved c =
    let uses = used_lists c.args.uses.now in
    let size = lists_length c.args.uses.now in
    let places = waits_length c.mark.new.waiting in
    let before = waits_length c.places.waiting in
    let sized : length (waiter_lists c.mark.new.waiting) ≡ length uses = omega (arith, c.places.invariant.sized) in
    goes_on uses c.places.list.items c.places.marks (waiter_lists c.places.waiting) c.places.ready.keys c.take_least.new.ready.keys c.in-Some.number
    c.places.invariant c.in-Some.ensures.removal c.in-Some.ensures.above c.push.new.self.items c.mark.new.marks (waiter_lists c.mark.new.waiting) c.mark.new.ready.keys
    c.in_ok-push.ensures.items c.in_ok-mark.ensures.marks c.in_ok-mark.ensures.sound c.in_ok-mark.ensures.covered sized

pub returns : goal.returns
returns c =
    let none : length c.places.ready.keys ≡ 0 =
    elim (cases_lt 0 (length c.places.ready.keys)) [
      | inl some ↦ absurd (false≢true (c.in_default.ensures.variant.1 some))
      | inr le ↦ omega arith
    ] in
    none_ready (used_lists c.args.uses.now) c.places.list.items c.places.marks (waiter_lists c.places.waiting) c.places.ready.keys c.places.invariant (nil_from_length c.places.ready.keys none)

pub settle_all-requires-clause-no_marks : goal.settle_all-requires-clause-no_marks
settle_all-requires-clause-no_marks c = λ number. all_unmarked c.args.marks.now (length c.args.uses.now) number c.requires.no_marks

pub settle_all-requires-clause-sound : goal.settle_all-requires-clause-sound
settle_all-requires-clause-sound c = nothing_yet (used_lists c.args.uses.now) c.args.marks.now c.args.waiting.now c.new-ready.result.keys c.requires.no_waiters c.new-ready.ensures.empty

pub places-init : goal.places-init
places-init c =
    let size = lists_length c.args.uses.now in
    let places = waits_length c.settle_all.new.waiting in
    let sized : length (waiter_lists c.settle_all.new.waiting) ≡ length (used_lists c.args.uses.now) = omega arith in
    going_first (used_lists c.args.uses.now) c.new-list.result.items c.args.marks.now (waiter_lists c.settle_all.new.waiting) c.settle_all.new.ready.keys (length c.args.uses.now)
    c.new-list.ensures.items c.requires.no_marks (sym size) c.in_ok-settle_all.ensures.sound c.in_ok-settle_all.ensures.covered sized
