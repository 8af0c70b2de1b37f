-- The two units of each tie are one, and walks join the objects of one label, after one sequence was moved into
-- another by a tie.
use Rattle.std.proofs.Common.{◌≡◌, ℕ, ◌+◌, ◌<◌, ℤ, pos, neg_ℤ, ◌+ℤ◌, ◌-ℤ◌, List, [], ◌∷◌, ◌++◌, length, get_or, All, Contains, ◌⊎◌, inl, inr, refl, sym, ◌∙◌, subst, arith}
use Rattle.std.proofs.lemmas.Int.{ints}
use Rattle.std.proofs.lemmas.List.{map-append}
use Rattle.std.proofs.lemmas.List.Elements.{All-push, Contains-append_left, Contains-push}
use Rattle.ftn_base.specs.declared.entity.Tie.{Tie}
use Rattle.ftn_base.specs.Storage.{Link, object, Leads, tie_link, tie_links}
use Rattle.ftn_base.proofs.WalkLaws.{leads_back, leads_by, leads_forward, leads_more, leads_on}
use Rattle.ftn_base.specs.Storage.{IsWithin}
use Rattle.equiv_class.specs.steps.Lists.{IsListed, Lists}
use Rattle.equiv_class.specs.steps.Joins.{IsAbsorbed, IsMet, unit_a, unit_b}
use Rattle.equiv_class.specs.steps.Joining.{IsTied}
use Rattle.equiv_class.proofs.Seats.{HasStayed, WasMoved, moved, seat, stayed_a}

abbrev pub more_ties : List Tie → Tie → List Tie
more_ties ties tie = ties ++ tie ∷ []

pub links_more : (ties : List Tie) (tie : Tie) (link : Link) → Contains (tie_links ties) link → Contains (tie_links (more_ties ties tie)) link
links_more ties tie link c = subst (λ (l : List Link). Contains l link) (sym (map-append tie_link ties (tie ∷ []))) (Contains-append_left (tie_links ties) (tie_link tie ∷ []) link c)

pub link_here : (ties : List Tie) (tie : Tie) → Contains (tie_links (more_ties ties tie)) (tie_link tie)
link_here ties tie = subst (λ (l : List Link). Contains l (tie_link tie)) (sym (map-append tie_link ties (tie ∷ []))) (Contains-push (tie_links ties) (tie_link tie))

module _ (sizes : List ℕ) (ties : List Tie) (tie : Tie) (s new : Lists) (counted : length s.label ≡ length sizes) (within : All (IsWithin sizes) ties)
    (listed : IsListed s) (a_known : tie.a < length s.label) (b_known : tie.b < length s.label) (is : IsAbsorbed s tie new) (tied : IsTied ties s) where
  abbrev links : List Link
  links = tie_links (more_ties ties tie)

  abbrev place : ℕ → ℤ
  place v = pos (get_or s.place v 0)

  abbrev next_place : ℕ → ℤ
  next_place v = pos (get_or new.place v 0)

  -- ---- ties

  met_pair : (one : Tie) → WasMoved s tie new one.a ⊎ HasStayed s tie new one.a → WasMoved s tie new one.b ⊎ HasStayed s tie new one.b → IsMet s one → IsMet new one
  met_pair one (inl a) (inl b) m =
      let unit : get_or s.place one.a 0 + one.at_a ≡ get_or s.place one.b 0 + one.at_b = m.unit in
      let place_a : get_or new.place one.a 0 + unit_b s tie ≡ get_or s.place one.a 0 + unit_a s tie = a.place in
      let place_b : get_or new.place one.b 0 + unit_b s tie ≡ get_or s.place one.b 0 + unit_a s tie = b.place in
      record { label = a.after ∙ sym b.after; unit = omega arith }
  met_pair one (inl a) (inr b) m = absurd (b.before (sym m.label ∙ a.before))
  met_pair one (inr a) (inl b) m = absurd (a.before (m.label ∙ b.before))
  met_pair one (inr a) (inr b) m =
      let unit : get_or s.place one.a 0 + one.at_a ≡ get_or s.place one.b 0 + one.at_b = m.unit in
      let place_a : get_or new.place one.a 0 ≡ get_or s.place one.a 0 = a.place in
      let place_b : get_or new.place one.b 0 ≡ get_or s.place one.b 0 = b.place in
      record { label = a.after ∙ m.label ∙ sym b.after; unit = omega arith }

  met_before : All (IsMet new) ties
  met_before k d lt =
      let one = get_or ties k d in
      let there = within k d lt in
      let a_there : one.a < length sizes = there.a in
      let b_there : one.b < length sizes = there.b in
      met_pair one (seat s new tie listed is one.a (omega arith)) (seat s new tie listed is one.b (omega arith)) (tied.met k d lt)

  met_here : IsMet new tie
  met_here =
      let a = stayed_a s new tie listed is tie.a refl in
      let b = moved s new tie listed is tie.b b_known refl in
      let place_a : get_or new.place tie.a 0 ≡ get_or s.place tie.a 0 = a.place in
      let place_b : get_or new.place tie.b 0 + unit_b s tie ≡ get_or s.place tie.b 0 + unit_a s tie = b.place in
      record { label = a.after ∙ sym b.after; unit = omega arith }

  -- ---- walks

  led : (v w : ℕ) → v < length s.label → w < length s.label → get_or s.label v 0 ≡ get_or s.label w 0 → Leads links (object v) (object w) (place w -ℤ place v)
  led v w lt_v lt_w e = leads_more (tie_links ties) links (object v) (object w) (place w -ℤ place v) (links_more ties tie) (tied.led v w lt_v lt_w e)

  crossing : Leads links (object tie.a) (object tie.b) (pos tie.at_a -ℤ pos tie.at_b)
  crossing = leads_forward links (tie_link tie) (link_here ties tie)

  across : (v w : ℕ) → v < length s.label → w < length s.label → WasMoved s tie new v → HasStayed s tie new w → get_or new.label v 0 ≡ get_or new.label w 0
      → Leads links (object v) (object w) (next_place w -ℤ next_place v)
  across v w lt_v lt_w m k e =
      let to_b = led v tie.b lt_v b_known m.before in
      let from_a = led tie.a w a_known lt_w (sym m.after ∙ e ∙ k.after) in
      let over = leads_back links (object tie.a) (object tie.b) (pos tie.at_a -ℤ pos tie.at_b) crossing in
      let half = leads_on links (object v) (object tie.b) (object tie.a) (place tie.b -ℤ place v) (neg_ℤ (pos tie.at_a -ℤ pos tie.at_b)) to_b over in
      let whole = leads_on links (object v) (object tie.a) (object w) ((place tie.b -ℤ place v) +ℤ neg_ℤ (pos tie.at_a -ℤ pos tie.at_b)) (place w -ℤ place tie.a) half from_a in
      let place_v : get_or new.place v 0 + unit_b s tie ≡ get_or s.place v 0 + unit_a s tie = m.place in
      let place_w : get_or new.place w 0 ≡ get_or s.place w 0 = k.place in
      leads_by links (object v) (object w) (((place tie.b -ℤ place v) +ℤ neg_ℤ (pos tie.at_a -ℤ pos tie.at_b)) +ℤ (place w -ℤ place tie.a)) (next_place w -ℤ next_place v) whole (omega (arith, ints))

  led_pair : (v w : ℕ) → v < length s.label → w < length s.label → WasMoved s tie new v ⊎ HasStayed s tie new v → WasMoved s tie new w ⊎ HasStayed s tie new w → get_or new.label v 0 ≡ get_or new.label w 0
      → Leads links (object v) (object w) (next_place w -ℤ next_place v)
  led_pair v w lt_v lt_w (inl a) (inl b) e =
      let place_v : get_or new.place v 0 + unit_b s tie ≡ get_or s.place v 0 + unit_a s tie = a.place in
      let place_w : get_or new.place w 0 + unit_b s tie ≡ get_or s.place w 0 + unit_a s tie = b.place in
      leads_by links (object v) (object w) (place w -ℤ place v) (next_place w -ℤ next_place v) (led v w lt_v lt_w (a.before ∙ sym b.before)) (omega (arith, ints))
  led_pair v w lt_v lt_w (inl a) (inr b) e = across v w lt_v lt_w a b e
  led_pair v w lt_v lt_w (inr a) (inl b) e =
      leads_by links (object v) (object w) (neg_ℤ (next_place v -ℤ next_place w)) (next_place w -ℤ next_place v)
      (leads_back links (object w) (object v) (next_place v -ℤ next_place w) (across w v lt_w lt_v b a (sym e))) (omega (arith, ints))
  led_pair v w lt_v lt_w (inr a) (inr b) e =
      let place_v : get_or new.place v 0 ≡ get_or s.place v 0 = a.place in
      let place_w : get_or new.place w 0 ≡ get_or s.place w 0 = b.place in
      leads_by links (object v) (object w) (place w -ℤ place v) (next_place w -ℤ next_place v) (led v w lt_v lt_w (sym a.after ∙ e ∙ b.after)) (omega (arith, ints))

  pub tied_next : IsTied (more_ties ties tie) new
  tied_next =
      let size : length new.label ≡ length s.label = is.moved.labels in
      record {
        met = All-push (IsMet new) ties tie met_before met_here;
        led = λ v w lt_v lt_w e.
            let v_there : v < length s.label = omega arith in
            let w_there : w < length s.label = omega arith in
            led_pair v w v_there w_there (seat s new tie listed is v v_there) (seat s new tie listed is w w_there) e;
      }
