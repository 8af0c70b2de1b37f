use Rattle.std.proofs.Common.{◌≡◌, ◌<◌, ◌∙◌, ℕ, List, length, slice_index, All, sym, subst, ap}
use Rattle.equiv_class.specs.steps.Lists.{lists_of, reach_of}
use Rattle.equiv_class.specs.steps.Numbers.{IsNumbered}
use Rattle.equiv_class.proofs.Answered.{order_known, sound}
use Rattle.equiv_class.proofs.Reached.{consistent}
use Rattle.equiv_class.proofs.solving.classes.Goals as goal

pub sizes_of-requires-clause-known : goal.sizes_of-requires-clause-known
sizes_of-requires-clause-known c =
    let s = c.in_ok-sequences.sequences in
    let numbered : IsNumbered s.label.items c.in_ok-numbered.numbered.class.items c.in_ok-numbered.numbered.order.items =
    subst (λ (label : List ℕ). IsNumbered label c.in_ok-numbered.numbered.class.items c.in_ok-numbered.numbered.order.items) c.deref.ensures.value c.in_ok-numbered.ensures in
    subst (λ (order : List ℕ). All (λ l. l < length s.label.items) order) (sym c.deref-2.ensures.value)
    (order_known s.label.items c.in_ok-numbered.numbered.class.items c.in_ok-numbered.numbered.order.items (length s.label.items) numbered c.in_ok-sequences.ensures.joined.listed.known)

pub returns-clause-sound : goal.returns-clause-sound
returns-clause-sound c =
    let s = c.in_ok-sequences.sequences in
    let order = c.in_ok-numbered.numbered.order.items in
    let size = c.in_ok-size.size.items in
    let numbered : IsNumbered s.label.items c.in_ok-numbered.numbered.class.items order =
    subst (λ (label : List ℕ). IsNumbered label c.in_ok-numbered.numbered.class.items order) c.deref.ensures.value c.in_ok-numbered.ensures in
    sound c.args.sizes.now c.args.ties.now (lists_of s) c.requires.within c.in_ok-sequences.ensures.joined c.in_ok-numbered.numbered.class.items order c.in_ok-offset.offset.items size numbered
    c.in_ok-offset.ensures.size c.in_ok-offset.ensures.each
    (c.in_ok-size.ensures.size ∙ ap length c.deref-2.ensures.value)
    (subst (λ (list : List ℕ). (k : ℕ) → k < length list → slice_index size k ≡ reach_of (lists_of s) (slice_index list k)) c.deref-2.ensures.value c.in_ok-size.ensures.each)

pub returns-clause-consistent : goal.returns-clause-consistent
returns-clause-consistent c = λ _ bad.
    let joined = c.in_ok-sequences.ensures.joined in
    consistent c.args.sizes.now c.args.ties.now (lists_of c.in_ok-sequences.sequences) joined.spanned.counted c.requires.within joined.tied.met bad
