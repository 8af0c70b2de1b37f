-- How far sequences reach after one was moved into another.
use Rattle.std.proofs.Common.{◌≡◌, ◌≢◌, ℕ, ◌+◌, ◌-◌, ◌<◌, ◌≤◌, max, List, length, get_or, set, sum, inl, inr, sym, ◌∙◌, subst, ap, arith, length-set}
use Rattle.std.proofs.lemmas.Bool.{cases_eq, cases_lt}
use Rattle.std.proofs.lemmas.List.{get_or-set_other, get_or-set_same}
use Rattle.std.proofs.lemmas.List.Sums.{sum_by-set}
use Rattle.ftn_base.specs.declared.entity.Tie.{Tie}
use Rattle.ftn_base.specs.Storage.{IsWithin}
use Rattle.equiv_class.specs.declared.sequences.TheConstants.{MIDDLE}
use Rattle.equiv_class.specs.steps.Lists.{IsListed, Lists}
use Rattle.equiv_class.specs.steps.Joins.{IsAbsorbed, label_a, label_b, unit_a, unit_b}
use Rattle.equiv_class.specs.steps.Joining.{IsSpanned}
use Rattle.equiv_class.proofs.Seats.{HasStayed, WasMoved, moved, seat, stayed, stayed_a}

-- ---- one list of how far sequences reach

module _ (old : List ℕ) (into gone reach : ℕ) (apart : gone ≢ into) (into_lt : into < length old) (gone_lt : gone < length old) where
  abbrev next : List ℕ
  next = set (set old into reach) gone 0

  into_apart : into ≢ gone
  into_apart e = apart (sym e)

  pub reach_into : get_or next into 0 ≡ reach
  reach_into = get_or-set_other (set old into reach) gone into 0 0 into_apart ∙ get_or-set_same old into reach 0 into_lt

  pub reach_kept : (l : ℕ) → l ≢ into → l ≢ gone → get_or next l 0 ≡ get_or old l 0
  reach_kept l ne_into ne_gone = get_or-set_other (set old into reach) gone l 0 0 ne_gone ∙ get_or-set_other old into l reach 0 ne_into

  pub reach_sum : sum next + get_or old into 0 + get_or old gone 0 ≡ sum old + reach
  reach_sum =
      let lt : gone < length (set old into reach) = let size = length-set old into reach in omega arith in
      let second : sum next + get_or (set old into reach) gone 0 ≡ sum (set old into reach) + 0 = sum_by-set (λ (x : ℕ). x) (set old into reach) gone 0 0 lt in
      let first : sum (set old into reach) + get_or old into 0 ≡ sum old + reach = sum_by-set (λ (x : ℕ). x) old into reach 0 into_lt in
      let same : get_or (set old into reach) gone 0 ≡ get_or old gone 0 = get_or-set_other old into gone reach 0 apart in
      omega arith

module _ (sizes : List ℕ) (s new : Lists) (tie : Tie) (listed : IsListed s) (within : IsWithin sizes tie) (is : IsAbsorbed s tie new) (spanned : IsSpanned sizes s) where
  abbrev into : ℕ
  into = label_a s tie

  abbrev gone : ℕ
  gone = label_b s tie

  abbrev up : ℕ
  up = unit_a s tie

  abbrev down : ℕ
  down = unit_b s tie

  abbrev below : ℕ → ℕ
  below l = get_or s.below l 0

  abbrev above : ℕ → ℕ
  above l = get_or s.above l 0

  abbrev lowest : ℕ
  lowest = max (below into) (below gone + down - up)

  abbrev highest : ℕ
  highest = max (above into) (above gone + up - down)

  size : length new.label ≡ length s.label
  size = is.moved.labels

  a_known : tie.a < length s.label
  a_known = let lt : tie.a < length sizes = within.a in let e = spanned.counted in omega arith

  b_known : tie.b < length s.label
  b_known = let lt : tie.b < length sizes = within.b in let e = spanned.counted in omega arith

  into_below : into < length s.below
  into_below = let lt : into < length s.label = listed.known tie.a a_known in let e = listed.belows in omega arith

  gone_below : gone < length s.below
  gone_below = let lt : gone < length s.label = listed.known tie.b b_known in let e = listed.belows in omega arith

  into_above : into < length s.above
  into_above = let lt : into < length s.label = listed.known tie.a a_known in let e = listed.aboves in omega arith

  gone_above : gone < length s.above
  gone_above = let lt : gone < length s.label = listed.known tie.b b_known in let e = listed.aboves in omega arith

  below_into : get_or new.below into 0 ≡ lowest
  below_into = ap (λ (l : List ℕ). get_or l into 0) is.below ∙ reach_into s.below into gone lowest is.apart into_below gone_below

  above_into : get_or new.above into 0 ≡ highest
  above_into = ap (λ (l : List ℕ). get_or l into 0) is.above ∙ reach_into s.above into gone highest is.apart into_above gone_above

  below_kept : (l : ℕ) → l ≢ into → l ≢ gone → get_or new.below l 0 ≡ below l
  below_kept l ne_into ne_gone = ap (λ (list : List ℕ). get_or list l 0) is.below ∙ reach_kept s.below into gone lowest is.apart into_below gone_below l ne_into ne_gone

  above_kept : (l : ℕ) → l ≢ into → l ≢ gone → get_or new.above l 0 ≡ above l
  above_kept l ne_into ne_gone = ap (λ (list : List ℕ). get_or list l 0) is.above ∙ reach_kept s.above into gone highest is.apart into_above gone_above l ne_into ne_gone

  -- ---- bounds

  low_moved : (v : ℕ) → v < length s.label → WasMoved s tie new v → MIDDLE ≤ get_or new.place v 0 + lowest
  low_moved v lt m =
      let old : MIDDLE ≤ get_or s.place v 0 + below gone = subst (λ (l : ℕ). MIDDLE ≤ get_or s.place v 0 + below l) m.before (spanned.low v lt) in
      let place : get_or new.place v 0 + down ≡ get_or s.place v 0 + up = m.place in
      omega arith

  high_moved : (v : ℕ) → v < length s.label → WasMoved s tie new v → get_or new.place v 0 + get_or sizes v 0 ≤ MIDDLE + highest
  high_moved v lt m =
      let old : get_or s.place v 0 + get_or sizes v 0 ≤ MIDDLE + above gone = subst (λ (l : ℕ). get_or s.place v 0 + get_or sizes v 0 ≤ MIDDLE + above l) m.before (spanned.high v lt) in
      let place : get_or new.place v 0 + down ≡ get_or s.place v 0 + up = m.place in
      omega arith

  low_stayed : (v : ℕ) → v < length s.label → HasStayed s tie new v → MIDDLE ≤ get_or new.place v 0 + get_or new.below (get_or s.label v 0) 0
  low_stayed v lt k =
      let old : MIDDLE ≤ get_or s.place v 0 + below (get_or s.label v 0) = spanned.low v lt in
      let place : get_or new.place v 0 ≡ get_or s.place v 0 = k.place in
      elim (cases_eq (get_or s.label v 0) into) [
        | inl e ↦
            let here : MIDDLE ≤ get_or s.place v 0 + below into = subst (λ (l : ℕ). MIDDLE ≤ get_or s.place v 0 + below l) e old in
            let more : MIDDLE ≤ get_or new.place v 0 + get_or new.below into 0 = (let b = below_into in omega arith) in
            subst (λ (l : ℕ). MIDDLE ≤ get_or new.place v 0 + get_or new.below l 0) (sym e) more
        | inr ne ↦ let same = below_kept (get_or s.label v 0) ne k.before in omega arith
      ]

  high_stayed : (v : ℕ) → v < length s.label → HasStayed s tie new v → get_or new.place v 0 + get_or sizes v 0 ≤ MIDDLE + get_or new.above (get_or s.label v 0) 0
  high_stayed v lt k =
      let old : get_or s.place v 0 + get_or sizes v 0 ≤ MIDDLE + above (get_or s.label v 0) = spanned.high v lt in
      let place : get_or new.place v 0 ≡ get_or s.place v 0 = k.place in
      elim (cases_eq (get_or s.label v 0) into) [
        | inl e ↦
            let here : get_or s.place v 0 + get_or sizes v 0 ≤ MIDDLE + above into = subst (λ (l : ℕ). get_or s.place v 0 + get_or sizes v 0 ≤ MIDDLE + above l) e old in
            let more : get_or new.place v 0 + get_or sizes v 0 ≤ MIDDLE + get_or new.above into 0 = (let b = above_into in omega arith) in
            subst (λ (l : ℕ). get_or new.place v 0 + get_or sizes v 0 ≤ MIDDLE + get_or new.above l 0) (sym e) more
        | inr ne ↦ let same = above_kept (get_or s.label v 0) ne k.before in omega arith
      ]

  low : (v : ℕ) → v < length s.label → MIDDLE ≤ get_or new.place v 0 + get_or new.below (get_or new.label v 0) 0
  low v lt = elim (seat s new tie listed is v lt) [
    | inl m ↦ subst (λ (l : ℕ). MIDDLE ≤ get_or new.place v 0 + get_or new.below l 0) (sym m.after) (subst (λ (n : ℕ). MIDDLE ≤ get_or new.place v 0 + n) (sym below_into) (low_moved v lt m))
    | inr k ↦ subst (λ (l : ℕ). MIDDLE ≤ get_or new.place v 0 + get_or new.below l 0) (sym k.after) (low_stayed v lt k)
  ]

  high : (v : ℕ) → v < length s.label → get_or new.place v 0 + get_or sizes v 0 ≤ MIDDLE + get_or new.above (get_or new.label v 0) 0
  high v lt = elim (seat s new tie listed is v lt) [
    | inl m ↦ subst (λ (l : ℕ). get_or new.place v 0 + get_or sizes v 0 ≤ MIDDLE + get_or new.above l 0) (sym m.after) (subst (λ (n : ℕ). get_or new.place v 0 + get_or sizes v 0 ≤ MIDDLE + n) (sym above_into) (high_moved v lt m))
    | inr k ↦ subst (λ (l : ℕ). get_or new.place v 0 + get_or sizes v 0 ≤ MIDDLE + get_or new.above l 0) (sym k.after) (high_stayed v lt k)
  ]

  -- ---- the bounds are reached

  -- an object of that label begins there
  abbrev Begins : ℕ → ℕ → Type 0
  Begins l reach = (u : ℕ) × (u < length s.label) × (get_or new.label u 0 ≡ l) × (get_or new.place u 0 + reach ≡ MIDDLE)

  abbrev Ends : ℕ → ℕ → Type 0
  Ends l reach = (u : ℕ) × (u < length s.label) × (get_or new.label u 0 ≡ l) × (get_or new.place u 0 + get_or sizes u 0 ≡ MIDDLE + reach)

  begins_into : Begins into lowest
  begins_into = elim (cases_lt (below into) (below gone + down - up)) [
    | inl less ↦
        let one = spanned.least tie.b b_known in
        let m = moved s new tie listed is one.0 one.1 one.2 in
        let place : get_or new.place one.0 0 + down ≡ get_or s.place one.0 0 + up = m.place in
        let first : get_or s.place one.0 0 + below gone ≡ MIDDLE = one.3 in
        (one.0, one.1, m.after, (omega arith))
    | inr le ↦
        let one = spanned.least tie.a a_known in
        let k = stayed_a s new tie listed is one.0 one.2 in
        let place : get_or new.place one.0 0 ≡ get_or s.place one.0 0 = k.place in
        let first : get_or s.place one.0 0 + below into ≡ MIDDLE = one.3 in
        (one.0, one.1, k.after ∙ one.2, (omega arith))
  ]

  ends_into : Ends into highest
  ends_into = elim (cases_lt (above into) (above gone + up - down)) [
    | inl less ↦
        let one = spanned.greatest tie.b b_known in
        let m = moved s new tie listed is one.0 one.1 one.2 in
        let place : get_or new.place one.0 0 + down ≡ get_or s.place one.0 0 + up = m.place in
        let last : get_or s.place one.0 0 + get_or sizes one.0 0 ≡ MIDDLE + above gone = one.3 in
        (one.0, one.1, m.after, (omega arith))
    | inr le ↦
        let one = spanned.greatest tie.a a_known in
        let k = stayed_a s new tie listed is one.0 one.2 in
        let place : get_or new.place one.0 0 ≡ get_or s.place one.0 0 = k.place in
        let last : get_or s.place one.0 0 + get_or sizes one.0 0 ≡ MIDDLE + above into = one.3 in
        (one.0, one.1, k.after ∙ one.2, (omega arith))
  ]

  begins_stayed : (v : ℕ) → v < length s.label → get_or s.label v 0 ≢ gone → Begins (get_or s.label v 0) (get_or new.below (get_or s.label v 0) 0)
  begins_stayed v lt ne = elim (cases_eq (get_or s.label v 0) into) [
    | inl e ↦ subst (λ (l : ℕ). Begins l (get_or new.below l 0)) (sym e) (subst (λ (n : ℕ). Begins into n) (sym below_into) begins_into)
    | inr ne_into ↦
        let one = spanned.least v lt in
        let k = stayed s new tie listed is one.0 (λ e. ne (sym one.2 ∙ e)) in
        let place : get_or new.place one.0 0 ≡ get_or s.place one.0 0 = k.place in
        let first : get_or s.place one.0 0 + below (get_or s.label v 0) ≡ MIDDLE = one.3 in
        let same = below_kept (get_or s.label v 0) ne_into ne in
        (one.0, one.1, k.after ∙ one.2, (omega arith))
  ]

  ends_stayed : (v : ℕ) → v < length s.label → get_or s.label v 0 ≢ gone → Ends (get_or s.label v 0) (get_or new.above (get_or s.label v 0) 0)
  ends_stayed v lt ne = elim (cases_eq (get_or s.label v 0) into) [
    | inl e ↦ subst (λ (l : ℕ). Ends l (get_or new.above l 0)) (sym e) (subst (λ (n : ℕ). Ends into n) (sym above_into) ends_into)
    | inr ne_into ↦
        let one = spanned.greatest v lt in
        let k = stayed s new tie listed is one.0 (λ e. ne (sym one.2 ∙ e)) in
        let place : get_or new.place one.0 0 ≡ get_or s.place one.0 0 = k.place in
        let last : get_or s.place one.0 0 + get_or sizes one.0 0 ≡ MIDDLE + above (get_or s.label v 0) = one.3 in
        let same = above_kept (get_or s.label v 0) ne_into ne in
        (one.0, one.1, k.after ∙ one.2, (omega arith))
  ]

  least : (v : ℕ) → v < length s.label → Begins (get_or new.label v 0) (get_or new.below (get_or new.label v 0) 0)
  least v lt = elim (seat s new tie listed is v lt) [
    | inl m ↦ subst (λ (l : ℕ). Begins l (get_or new.below l 0)) (sym m.after) (subst (λ (n : ℕ). Begins into n) (sym below_into) begins_into)
    | inr k ↦ subst (λ (l : ℕ). Begins l (get_or new.below l 0)) (sym k.after) (begins_stayed v lt k.before)
  ]

  greatest : (v : ℕ) → v < length s.label → Ends (get_or new.label v 0) (get_or new.above (get_or new.label v 0) 0)
  greatest v lt = elim (seat s new tie listed is v lt) [
    | inl m ↦ subst (λ (l : ℕ). Ends l (get_or new.above l 0)) (sym m.after) (subst (λ (n : ℕ). Ends into n) (sym above_into) ends_into)
    | inr k ↦ subst (λ (l : ℕ). Ends l (get_or new.above l 0)) (sym k.after) (ends_stayed v lt k.before)
  ]

  -- ---- the whole has no more units

  reaches : lowest + highest ≤ below into + above into + below gone + above gone
  reaches =
      let low_a : MIDDLE ≤ get_or s.place tie.a 0 + below into = spanned.low tie.a a_known in
      let low_b : MIDDLE ≤ get_or s.place tie.b 0 + below gone = spanned.low tie.b b_known in
      let high_a : get_or s.place tie.a 0 + get_or sizes tie.a 0 ≤ MIDDLE + above into = spanned.high tie.a a_known in
      let high_b : get_or s.place tie.b 0 + get_or sizes tie.b 0 ≤ MIDDLE + above gone = spanned.high tie.b b_known in
      let unit_of_a : tie.at_a < get_or sizes tie.a 0 = within.at_a in
      let unit_of_b : tie.at_b < get_or sizes tie.b 0 = within.at_b in
      omega arith

  small : sum new.below + sum new.above ≤ sum sizes
  small =
      let new_below : sum new.below ≡ sum (set (set s.below into lowest) gone 0) = ap sum is.below in
      let new_above : sum new.above ≡ sum (set (set s.above into highest) gone 0) = ap sum is.above in
      let belows : sum (set (set s.below into lowest) gone 0) + below into + below gone ≡ sum s.below + lowest = reach_sum s.below into gone lowest is.apart into_below gone_below in
      let aboves : sum (set (set s.above into highest) gone 0) + above into + above gone ≡ sum s.above + highest = reach_sum s.above into gone highest is.apart into_above gone_above in
      let old : sum s.below + sum s.above ≤ sum sizes = spanned.small in
      let both = reaches in
      omega arith

  back : (v : ℕ) → v < length new.label → v < length s.label
  back v lt = let same = size in omega arith

  there : (v : ℕ) → v < length s.label → v < length new.label
  there v lt = let same = size in omega arith

  pub spanned_next : IsSpanned sizes new
  spanned_next = record {
    counted = size ∙ spanned.counted;
    low = λ v lt. low v (back v lt);
    high = λ v lt. high v (back v lt);
    least = λ v lt. let one = least v (back v lt) in (one.0, there one.0 one.1, one.2, one.3);
    greatest = λ v lt. let one = greatest v (back v lt) in (one.0, there one.0 one.1, one.2, one.3);
    small = small;
  }
