-- What the kept places say of walks: a walk keeps the label, and its displacement is the difference of places.
use Rattle.std.proofs.Common.{◌≡◌, ℕ, ◌+◌, ◌<◌, ℤ, pos, neg_ℤ, ◌+ℤ◌, List, length, get_or, All, Contains, refl, sym, ◌∙◌, subst, arith}
use Rattle.std.proofs.lemmas.Int.{ints}
use Rattle.std.proofs.lemmas.List.Elements.{All-contains, All-map}
use Rattle.ftn_base.specs.declared.entity.Tie.{Tie}
use Rattle.ftn_base.specs.Storage.{Thing, Link, object, block, IsContradicted, Leads, tie_link, tie_links}
use Rattle.ftn_base.proofs.WalkLaws.{leads_kept}
use Rattle.ftn_base.specs.Storage.{IsWithin}
use Rattle.equiv_class.specs.steps.Joins.{IsMet}
use Rattle.equiv_class.specs.steps.Lists.{Lists}

-- what a fact of each tie is of each link
on_links : (P : Link → Type 0) (ties : List Tie) → ((k : ℕ) (d : Tie) → k < length ties → P (tie_link (get_or ties k d))) → (link : Link) → Contains (tie_links ties) link → P link
on_links P ties all link there = All-contains P (tie_links ties) link (All-map P tie_link ties all) there

module _ (sizes : List ℕ) (ties : List Tie) (s : Lists) (counted : length s.label ≡ length sizes) (within : All (IsWithin sizes) ties) (met : All (IsMet s) ties) where
  -- ---- from an object that is there

  module _ (v : ℕ) where
    abbrev pub IsAt : Thing → ℤ → Type 0
    IsAt (object w) by = (w < length s.label) × (get_or s.label w 0 ≡ get_or s.label v 0) × (pos (get_or s.place w 0) ≡ pos (get_or s.place v 0) +ℤ by)
    IsAt (block b) by = ⊥

    onward_tie : (k : ℕ) (d : Tie) → k < length ties → (by : ℤ) → IsAt (tie_link (get_or ties k d)).from by → IsAt (tie_link (get_or ties k d)).to (by +ℤ (tie_link (get_or ties k d)).by)
    onward_tie k d lt by at =
        let tie = get_or ties k d in
        let there = within k d lt in
        let b_there : tie.b < length sizes = there.b in
        let m = met k d lt in
        let unit : get_or s.place tie.a 0 + tie.at_a ≡ get_or s.place tie.b 0 + tie.at_b = m.unit in
        let here : pos (get_or s.place tie.a 0) ≡ pos (get_or s.place v 0) +ℤ by = at.2 in
        ((omega arith), sym m.label ∙ at.1, (omega (arith, ints)))

    back_tie : (k : ℕ) (d : Tie) → k < length ties → (by : ℤ) → IsAt (tie_link (get_or ties k d)).to by → IsAt (tie_link (get_or ties k d)).from (by +ℤ neg_ℤ (tie_link (get_or ties k d)).by)
    back_tie k d lt by at =
        let tie = get_or ties k d in
        let there = within k d lt in
        let a_there : tie.a < length sizes = there.a in
        let m = met k d lt in
        let unit : get_or s.place tie.a 0 + tie.at_a ≡ get_or s.place tie.b 0 + tie.at_b = m.unit in
        let here : pos (get_or s.place tie.b 0) ≡ pos (get_or s.place v 0) +ℤ by = at.2 in
        ((omega arith), m.label ∙ at.1, (omega (arith, ints)))

    pub reached : v < length s.label → (last : Thing) (by : ℤ) → Leads (tie_links ties) (object v) last by → IsAt last by
    reached lt last by leads =
        let whole : pos 0 +ℤ by ≡ by = omega (arith, ints) in
        let begun : IsAt (object v) (pos 0) = (lt, refl, omega (arith, ints)) in
        subst (λ (d : ℤ). IsAt last d) whole (leads_kept (tie_links ties) IsAt
        (on_links (λ link. (at : ℤ) → IsAt link.from at → IsAt link.to (at +ℤ link.by)) ties onward_tie)
        (on_links (λ link. (at : ℤ) → IsAt link.to at → IsAt link.from (at +ℤ neg_ℤ link.by)) ties back_tie)
        (object v) last (pos 0) by leads begun)

  -- ---- from anything back to itself

  abbrev place_of : Thing → ℤ
  place_of (object v) = pos (get_or s.place v 0)
  place_of (block b) = pos 0

  module _ (thing : Thing) where
    abbrev IsOff : Thing → ℤ → Type 0
    IsOff other by = place_of other ≡ place_of thing +ℤ by

    onward_off : (k : ℕ) (d : Tie) → k < length ties → (by : ℤ) → IsOff (tie_link (get_or ties k d)).from by → IsOff (tie_link (get_or ties k d)).to (by +ℤ (tie_link (get_or ties k d)).by)
    onward_off k d lt by at =
        let tie = get_or ties k d in
        let unit : get_or s.place tie.a 0 + tie.at_a ≡ get_or s.place tie.b 0 + tie.at_b = (met k d lt).unit in
        let here : pos (get_or s.place tie.a 0) ≡ place_of thing +ℤ by = at in
        omega (arith, ints)

    back_off : (k : ℕ) (d : Tie) → k < length ties → (by : ℤ) → IsOff (tie_link (get_or ties k d)).to by → IsOff (tie_link (get_or ties k d)).from (by +ℤ neg_ℤ (tie_link (get_or ties k d)).by)
    back_off k d lt by at =
        let tie = get_or ties k d in
        let unit : get_or s.place tie.a 0 + tie.at_a ≡ get_or s.place tie.b 0 + tie.at_b = (met k d lt).unit in
        let here : pos (get_or s.place tie.b 0) ≡ place_of thing +ℤ by = at in
        omega (arith, ints)

    off_from : (last : Thing) (by : ℤ) → Leads (tie_links ties) thing last by → IsOff last (pos 0 +ℤ by)
    off_from last by leads =
        let begun : IsOff thing (pos 0) = omega (arith, ints) in
        leads_kept (tie_links ties) IsOff
        (on_links (λ link. (at : ℤ) → IsOff link.from at → IsOff link.to (at +ℤ link.by)) ties onward_off)
        (on_links (λ link. (at : ℤ) → IsOff link.to at → IsOff link.from (at +ℤ neg_ℤ link.by)) ties back_off)
        thing last (pos 0) by leads begun

  pub consistent : IsContradicted (tie_links ties) → ⊥
  consistent bad =
      let e : place_of bad.thing ≡ place_of bad.thing +ℤ (pos 0 +ℤ bad.by) = off_from bad.thing bad.thing bad.by bad.back in
      let none : bad.by ≡ pos 0 = omega (arith, ints) in
      bad.apart none
