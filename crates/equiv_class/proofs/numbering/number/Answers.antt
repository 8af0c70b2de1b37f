use Rattle.std.proofs.Common.{arith, ◌≡◌, length, take, drop, ◌++◌}
use Rattle.equiv_class.proofs.Counted.{counted_back, numbered_whole, numbering_next}
use Rattle.equiv_class.proofs.numbering.number.Goals as goal

pub loop-one-preserved : goal.loop-one-preserved
loop-one-preserved c =
    let new = c.number_of.new.numbers in
    let same : length new ≡ c.loop-one.numbers.len = omega (arith, c.number_of.auto.numbers, c.deref_mut.ensures.len) in
    numbering_next c.args.label.now c.loop-one.one-index c.loop-one.numbers.items c.loop-one.class.items c.loop-one.order.items c.in_ok-number.number c.loop-one-test.true c.requires.known c.loop-one.invariant
    (take c.loop-one.numbers.len (new ++ drop (length new) c.loop-one.numbers.items)) c.push.new.self.items c.number_of.new.order.items
    (counted_back c.loop-one.numbers.items c.deref_mut.result.now new c.loop-one.order.items _ c.in_ok-number.number c.number_of.new.order.items c.loop-one.numbers.len c.deref_mut.ensures.value same c.in_ok-number.ensures)
    c.in_ok-push.ensures.items

pub returns : goal.returns
returns c =
    let all : c.loop-one.one-index ≡ length c.args.label.now = omega (arith, c.loop-one-test.false, c.loop-one.auto.one-index-end) in
    numbered_whole c.args.label.now c.loop-one.one-index c.loop-one.numbers.items c.loop-one.class.items c.loop-one.order.items all c.loop-one.invariant
