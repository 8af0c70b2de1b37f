use Rattle.std.proofs.Common.{◌≡◌, ◌<◌, ◌≤◌, ◌∙◌, ℕ, List, Bool, true, false, Any, All, take, length, get_or, refl, sym, subst, ap}
use Rattle.std.proofs.lemmas.List.Elements.{All-take}
use Rattle.ftn_base.specs.declared.entity.Tie.{Tie}
use Rattle.ftn_base.specs.Storage.{IsContradicted, tie_links}
use Rattle.ftn_base.specs.Storage.{IsWithin}
use Rattle.ftn_base.specs.StorageFaults.{IsExtended}
use Rattle.equiv_class.specs.Sound as classes
use Rattle.storage_layout.specs.steps.Kept.{given_of, sizes_in}
use Rattle.storage_layout.proofs.Parts.{take_among, drop_among, among_on, agree_among}
use Rattle.storage_layout.proofs.Judged.{extended_on, extended_back}
use Rattle.storage_layout.proofs.holding.is_extended.Goals as goal

pub joined-requires-clause-agree : goal.joined-requires-clause-agree
joined-requires-clause-agree c =
    let t = c.args.things.now in
    subst (λ (ties : List Tie). IsContradicted (tie_links ties) → ⊥) (sym c.ties_alone.ensures)
    (agree_among (take c.args.count (given_of t)) t.ties.items
    (among_on (take c.args.count (given_of t)) (given_of t) t.ties.items (take_among c.args.count (given_of t)) (drop_among (length t.members.items) t.ties.items)) c.requires.agree)

pub extends_before-requires : goal.extends_before-requires
extends_before-requires c =
    let t = c.args.things.now in
    let len : length c.deref-2.result.now ≡ length t.sizes.items = ap length c.deref-2.ensures.value ∙ c.in_ok-tied.ensures.offsets.all ∙ ap length c.deref.ensures.value in
    λ k d lt. subst (λ (n : ℕ). (get_or c.member_ties.result.now k d).b < n) (sym len)
    (subst (λ (ties : List Tie). k < length ties → (get_or ties k d).b < length t.sizes.items) (sym c.member_ties.ensures)
    (λ inside. (let is : IsWithin t.sizes.items (get_or (take (length t.members.items) t.ties.items) k d) = All-take (IsWithin t.sizes.items) (length t.members.items) t.ties.items c.requires.kept.linkable.within k d inside in is.b)) lt)

either_way : (result : Bool) (P Q R : Type 0) → (result ≡ true → Q) → (result ≡ false → R) → (Q → P) → (R → P → ⊥) → (result ≡ true → P) × (P → result ≡ true)
either_way true P Q R when_true when_false on back = ((λ e. on (when_true e)), (λ p. refl))
either_way false P Q R when_true when_false on back = ((λ e. on (when_true e)), (λ p. absurd (back (when_false refl) p)))

pub returns : goal.returns
returns c =
    let t = c.args.things.now in
    let kept = c.requires.kept in
    let tied = c.in_ok-tied.tied in
    let found : classes.IsSound t.sizes.items (tie_links (take c.args.count (given_of t))) tied.class.items tied.offset.items tied.size.items =
    subst (λ (sizes : List ℕ). classes.IsSound sizes (tie_links (take c.args.count (given_of t))) tied.class.items tied.offset.items tied.size.items) c.deref.ensures.value
    (subst (λ (ties : List Tie). classes.IsSound c.deref.result.now (tie_links ties) tied.class.items tied.offset.items tied.size.items) c.ties_alone.ensures c.in_ok-tied.ensures) in
    either_way c.extends_before.result (IsExtended (sizes_in t) t.members.items (take c.args.count (given_of t)))
    (Any (λ tie. tie.at_a < get_or c.deref-2.result.now tie.b 0) c.member_ties.result.now) (All (λ tie. get_or c.deref-2.result.now tie.b 0 ≤ tie.at_a) c.member_ties.result.now)
    c.extends_before.ensures.yes c.extends_before.ensures.no
    (λ far. extended_on (sizes_in t) t.members.items (given_of t) t.sizes.items t.names.items (length t.members.items) t.ties.items kept.are kept.members kept.given kept.linkable c.requires.agree c.args.count tied.class.items tied.offset.items tied.size.items found
    (subst (Any (λ tie. tie.at_a < get_or tied.offset.items tie.b 0)) c.member_ties.ensures (subst (λ (offset : List ℕ). Any (λ tie. tie.at_a < get_or offset tie.b 0) c.member_ties.result.now) c.deref-2.ensures.value far)))
    (λ near. extended_back (sizes_in t) t.members.items (given_of t) t.sizes.items t.names.items (length t.members.items) t.ties.items kept.are kept.members kept.given kept.linkable c.requires.agree c.args.count tied.class.items tied.offset.items tied.size.items found
    (subst (All (λ tie. get_or tied.offset.items tie.b 0 ≤ tie.at_a)) c.member_ties.ensures (subst (λ (offset : List ℕ). All (λ tie. get_or offset tie.b 0 ≤ tie.at_a) c.member_ties.result.now) c.deref-2.ensures.value near)))
