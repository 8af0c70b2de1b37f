use Rattle.std.proofs.Common.{◌≡◌, ◌∙◌, sym, ap, length, arith}
use Rattle.equiv_class.specs.steps.Lists.{lists_of, member_lists, members_of}
use Rattle.equiv_class.specs.steps.Joins.{label_b}
use Rattle.equiv_class.proofs.Absorbs.{lists_whole, moved_high, moved_known, moved_low, moved_whole, reach_whole}
use Rattle.equiv_class.proofs.sequences.absorb.Goals as goal

pub relabel-requires-clause-known : goal.relabel-requires-clause-known
relabel-requires-clause-known c =
    let s = lists_of c.args.sequences.now in
    let moved : c.deref.result.now ≡ members_of s.members (label_b s c.args.tie) = rw (sym c.label_of-from.ensures, sym (ap member_lists c.deref_mut.ensures.value)) (c.deref.ensures.value ∙ c.in_ok-moved.ensures.moved) in
    moved_known s c.args.tie c.requires.ready c.deref.result.now c.deref_mut-2.result.now moved c.deref_mut-2.ensures.value

pub relabel-requires-clause-low : goal.relabel-requires-clause-low
relabel-requires-clause-low c =
    let s = lists_of c.args.sequences.now in
    let moved : c.deref.result.now ≡ members_of s.members (label_b s c.args.tie) = rw (sym c.label_of-from.ensures, sym (ap member_lists c.deref_mut.ensures.value)) (c.deref.ensures.value ∙ c.in_ok-moved.ensures.moved) in
    moved_low s c.args.tie c.requires.ready c.deref.result.now c.deref_mut-3.result.now c.place_of-up.result c.place_of-down.result moved c.deref_mut-3.ensures.value c.place_of-up.ensures c.place_of-down.ensures

pub relabel-requires-clause-high : goal.relabel-requires-clause-high
relabel-requires-clause-high c =
    let s = lists_of c.args.sequences.now in
    let moved : c.deref.result.now ≡ members_of s.members (label_b s c.args.tie) = rw (sym c.label_of-from.ensures, sym (ap member_lists c.deref_mut.ensures.value)) (c.deref.ensures.value ∙ c.in_ok-moved.ensures.moved) in
    moved_high s c.args.tie c.requires.ready c.deref.result.now c.deref_mut-3.result.now c.place_of-up.result moved c.deref_mut-3.ensures.value c.place_of-up.ensures

pub returns : goal.returns
returns c =
    let old = c.args.sequences.now in
    let s = lists_of old in
    let moved : c.deref.result.now ≡ members_of s.members (label_b s c.args.tie) = rw (sym c.label_of-from.ensures, sym (ap member_lists c.deref_mut.ensures.value)) (c.deref.ensures.value ∙ c.in_ok-moved.ensures.moved) in
    let labels : length c.relabel.new.label ≡ old.label.len = omega (arith, c.relabel.auto.label, c.deref_mut-2.ensures.len) in
    let places : length c.relabel.new.place ≡ old.place.len = omega (arith, c.relabel.auto.place, c.deref_mut-3.ensures.len) in
    let lists : length c.hand_over.new.members ≡ old.members.len = omega (arith, c.hand_over.auto.members, c.deref_mut.ensures.len) in
    let belows : length c.widen.new.below ≡ old.below.len = omega (arith, c.widen.auto.below, c.deref_mut-4.ensures.len) in
    let aboves : length c.widen.new.above ≡ old.above.len = omega (arith, c.widen.auto.above, c.deref_mut-5.ensures.len) in
    record {
      apart = c.requires.apart;
      moved = moved_whole _ _ _ _ _ _ c.deref_mut-2.result.now c.deref_mut-3.result.now c.deref.result.now c.label_of-to.result c.place_of-up.result c.place_of-down.result c.relabel.new.label c.relabel.new.place _ _
          c.deref_mut-2.ensures.value c.deref_mut-3.ensures.value moved c.label_of-to.ensures c.place_of-up.ensures c.place_of-down.ensures labels places c.relabel.ensures;
      lists = lists_whole _ c.deref_mut.result.now c.hand_over.new.members _ _ c.label_of-from.result c.label_of-to.result _ c.deref_mut.ensures.value c.label_of-from.ensures c.label_of-to.ensures lists c.in_ok-moved.ensures.lists;
      below = reach_whole _ c.deref_mut-4.result.now c.widen.new.below _ _ _ _ c.label_of-from.result c.label_of-to.result c.place_of-down.result c.place_of-up.result _
          c.deref_mut-4.ensures.value c.label_of-from.ensures c.label_of-to.ensures c.place_of-down.ensures c.place_of-up.ensures belows c.widen.ensures.below;
      above = reach_whole _ c.deref_mut-5.result.now c.widen.new.above _ _ _ _ c.label_of-from.result c.label_of-to.result c.place_of-up.result c.place_of-down.result _
          c.deref_mut-5.ensures.value c.label_of-from.ensures c.label_of-to.ensures c.place_of-up.ensures c.place_of-down.ensures aboves c.widen.ensures.above;
    }
