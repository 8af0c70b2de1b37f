use Rattle.std.proofs.Common.{◌≡◌, ◌<◌, ◌≤◌, ◌-◌, ◌∙◌, ℕ, Option, None, length, get_or, drop, not, sym, subst, ap, arith}
use Rattle.std.proofs.lemmas.List.{get_or_default, take_at}
use Rattle.const_value.specs.steps.Labelling.{label_at}
use Rattle.const_value.specs.steps.Lists.{lists_of}
use Rattle.const_value.proofs.Labelling.{labels_end, labels_more}
use Rattle.const_value.proofs.SpreadTurns.{unlabelled_here}
use Rattle.const_value.proofs.Users.{users_within}
use Rattle.const_value.proofs.components.labels_of.Goals as goal

pub spread-requires-clause-users : goal.spread-requires-clause-users
spread-requires-clause-users c =
    let are = rw (← c.deref.ensures.value) at c.in_ok-users.ensures in
    users_within (lists_of c.args.uses.now) c.deref.result.now are

pub loop-left-preserved-in-Continue-branch-3 : goal.loop-left-preserved-in-Continue-branch-3
loop-left-preserved-in-Continue-branch-3 c =
    let uses = lists_of c.args.uses.now in
    let order = c.args.order.now in
    let left = c.loop-left.left in
    let n = get_or order (left - 1) 0 in
    let before = c.loop-left.labels.items in
    let after = c.spread.new.labels in
    let some : 0 < left = c.loop-left-test.true in
    let within : left ≤ length order = c.loop-left.invariant.within in
    let less : left - 1 < length order = omega (arith, some, within) in
    let none : c.index.result.now ≡ None = unlabelled_here c.index.result.now (c.is_none.ensures ∙ ap not c.if-is_none.true) in
    let fresh : label_at before n ≡ None = sym (subst (λ (o : Option ℕ). o ≡ get_or before n o) none c.index.ensures) in
    let spread = rw c.deref_mut.ensures.value at c.in_ok-spread.ensures in
    let are = rw (← c.deref.ensures.value) at c.in_ok-users.ensures in
    let both = labels_more uses (lists_of c.deref.result.now) order left n before after some within (get_or_default order (left - 1) 0 n less) c.requires.order are c.loop-left.invariant.sound fresh
    c.loop-left.invariant.past (spread uses) in
    let size : length after ≡ length uses = both.0.sized in
    let old : length before ≡ length uses = c.loop-left.invariant.sound.sized in
    let lent : length c.deref_mut.result.now ≡ length before = ap length c.deref_mut.ensures.value in
    let count : length after ≡ c.loop-left.labels.len = size ∙ sym old ∙ sym lent ∙ c.deref_mut.ensures.len in
    let fewer : left - 1 ≤ length order = omega (arith, within) in
    rw (take_at after (drop (length after) before) c.loop-left.labels.len count) (record { within = fewer; sound = both.0; past = both.1 })

pub returns : goal.returns
returns c =
    labels_end (lists_of c.args.uses.now) c.args.order.now c.loop-left.left c.loop-left.labels.items c.loop-left-test.false c.requires.order c.loop-left.invariant.sound c.loop-left.invariant.past
