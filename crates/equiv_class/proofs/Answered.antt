-- The answer of classes, offsets and sizes, from the kept lists and the numbers of their sequences.
use Rattle.std.proofs.Common.{◌≡◌, ℕ, ◌+◌, ◌<◌, ◌≤◌, ℤ, pos, ◌+ℤ◌, ◌-ℤ◌, List, length, get_or, All, refl, sym, ◌∙◌, subst, ap, arith}
use Rattle.std.proofs.lemmas.Int.{ints}
use Rattle.std.proofs.lemmas.List.{get_or_default}
use Rattle.ftn_base.specs.declared.entity.Tie.{Tie}
use Rattle.ftn_base.specs.Storage.{object, Leads, tie_links}
use Rattle.ftn_base.proofs.WalkLaws.{leads_by}
use Rattle.ftn_base.specs.Storage.{IsWithin}
use Rattle.equiv_class.specs.declared.sequences.TheConstants.{MIDDLE}
use Rattle.equiv_class.specs.Sound.{IsSound}
use Rattle.equiv_class.specs.steps.Lists.{Lists, begin_of, reach_of}
use Rattle.equiv_class.specs.steps.Joining.{IsJoined}
use Rattle.equiv_class.specs.steps.Numbers.{IsNumbered}
use Rattle.equiv_class.proofs.Reached.{reached}

-- the labels of the classes are labels of objects
pub order_known : (label class order : List ℕ) (bound : ℕ) → IsNumbered label class order → ((v : ℕ) → v < length label → get_or label v 0 < bound) → All (λ l. l < bound) order
order_known label class order bound numbered known k d lt =
    let one = numbered.used k lt in
    let same : get_or order k 0 ≡ get_or label one.0 0 = subst (λ (c : ℕ). get_or order c 0 ≡ get_or label one.0 0) one.2 (numbered.back one.0 one.1) in
    subst (λ (n : ℕ). n < bound) (sym (get_or_default order k d 0 lt ∙ same)) (known one.0 one.1)

module _ (sizes : List ℕ) (ties : List Tie) (s : Lists) (within : All (IsWithin sizes) ties) (joined : IsJoined sizes ties s) (class order offset size : List ℕ) (numbered : IsNumbered s.label class order)
    (offsets : length offset ≡ length s.label) (offset_at : (v : ℕ) → v < length s.label → get_or offset v 0 + MIDDLE ≡ begin_of s v)
    (reaches : length size ≡ length order) (size_at : (c : ℕ) → c < length order → get_or size c 0 ≡ reach_of s (get_or order c 0)) where
  there : (v : ℕ) → v < length sizes → v < length s.label
  there v lt = let same = joined.spanned.counted in omega arith

  back : (v : ℕ) → v < length s.label → v < length sizes
  back v lt = let same = joined.spanned.counted in omega arith

  label_of_class : (v w : ℕ) → v < length s.label → w < length s.label → get_or class v 0 ≡ get_or class w 0 → get_or s.label v 0 ≡ get_or s.label w 0
  label_of_class v w lt_v lt_w e = sym (numbered.back v lt_v) ∙ ap (λ (c : ℕ). get_or order c 0) e ∙ numbered.back w lt_w

  begin_at : (v : ℕ) (l : ℕ) → v < length s.label → get_or s.label v 0 ≡ l → get_or offset v 0 + MIDDLE ≡ get_or s.place v 0 + get_or s.below l 0
  begin_at v l lt e = subst (λ (k : ℕ). get_or offset v 0 + MIDDLE ≡ get_or s.place v 0 + get_or s.below k 0) e (offset_at v lt)

  apart : (v w : ℕ) (by : ℤ) → v < length s.label → Leads (tie_links ties) (object v) (object w) by
      → (get_or class v 0 ≡ get_or class w 0) × (pos (get_or offset w 0) ≡ pos (get_or offset v 0) +ℤ by)
  apart v w by lt_v leads =
      let at = reached sizes ties s joined.spanned.counted within joined.tied.met v lt_v (object w) by leads in
      let place : pos (get_or s.place w 0) ≡ pos (get_or s.place v 0) +ℤ by = at.2 in
      let begin_v = begin_at v (get_or s.label v 0) lt_v refl in
      let begin_w = begin_at w (get_or s.label v 0) at.0 at.1 in
      (numbered.same v w lt_v at.0 (sym at.1), (omega (arith, ints)))

  led : (v w : ℕ) → v < length s.label → w < length s.label → get_or class v 0 ≡ get_or class w 0 → Leads (tie_links ties) (object v) (object w) (pos (get_or s.place w 0) -ℤ pos (get_or s.place v 0))
  led v w lt_v lt_w e = joined.tied.led v w lt_v lt_w (label_of_class v w lt_v lt_w e)

  units_back : (v i w j : ℕ) → v < length s.label → w < length s.label → (get_or class v 0 ≡ get_or class w 0) × (get_or offset v 0 + i ≡ get_or offset w 0 + j)
      → Leads (tie_links ties) (object v) (object w) (pos i -ℤ pos j)
  units_back v i w j lt_v lt_w both =
      let begin_v = begin_at v (get_or s.label w 0) lt_v (label_of_class v w lt_v lt_w both.0) in
      let begin_w = begin_at w (get_or s.label w 0) lt_w refl in
      let same : get_or offset v 0 + i ≡ get_or offset w 0 + j = both.1 in
      leads_by (tie_links ties) (object v) (object w) (pos (get_or s.place w 0) -ℤ pos (get_or s.place v 0)) (pos i -ℤ pos j) (led v w lt_v lt_w both.0) (omega (arith, ints))

  units_on : (v i w j : ℕ) → v < length s.label → Leads (tie_links ties) (object v) (object w) (pos i -ℤ pos j) → (get_or class v 0 ≡ get_or class w 0) × (get_or offset v 0 + i ≡ get_or offset w 0 + j)
  units_on v i w j lt_v leads =
      let both = apart v w (pos i -ℤ pos j) lt_v leads in
      let off : pos (get_or offset w 0) ≡ pos (get_or offset v 0) +ℤ (pos i -ℤ pos j) = both.1 in
      (both.0, (omega (arith, ints)))

  size_of : (v : ℕ) → v < length s.label → get_or size (get_or class v 0) 0 ≡ get_or s.below (get_or s.label v 0) 0 + get_or s.above (get_or s.label v 0) 0
  size_of v lt = size_at (get_or class v 0) (numbered.known v lt) ∙ ap (reach_of s) (numbered.back v lt)

  inside : (v : ℕ) → v < length s.label → get_or offset v 0 + get_or sizes v 0 ≤ get_or size (get_or class v 0) 0
  inside v lt =
      let begin = begin_at v (get_or s.label v 0) lt refl in
      let whole = size_of v lt in
      let most : get_or s.place v 0 + get_or sizes v 0 ≤ MIDDLE + get_or s.above (get_or s.label v 0) 0 = joined.spanned.high v lt in
      omega arith

  last_of : (number : ℕ) → number < length size → (last : ℕ) × (last < length sizes) × (get_or class last 0 ≡ number) × (get_or offset last 0 + get_or sizes last 0 ≡ get_or size number 0)
  last_of number lt =
      let lt_order : number < length order = omega arith in
      let one = numbered.used number lt_order in
      let last = joined.spanned.greatest one.0 one.1 in
      let begin = begin_at last.0 (get_or s.label one.0 0) last.1 last.2 in
      let whole : get_or size number 0 ≡ get_or s.below (get_or s.label one.0 0) 0 + get_or s.above (get_or s.label one.0 0) 0 = subst (λ (c : ℕ). get_or size c 0 ≡ get_or s.below (get_or s.label one.0 0) 0 + get_or s.above (get_or s.label one.0 0) 0) one.2 (size_of one.0 one.1) in
      let most : get_or s.place last.0 0 + get_or sizes last.0 0 ≡ MIDDLE + get_or s.above (get_or s.label one.0 0) 0 = last.3 in
      (last.0, back last.0 last.1, numbered.same last.0 one.0 last.1 one.1 last.2 ∙ one.2, (omega arith))

  first_of : (v : ℕ) → v < length s.label → (first : ℕ) × (first < length sizes) × (get_or class first 0 ≡ get_or class v 0) × (get_or offset first 0 ≡ 0)
  first_of v lt =
      let one = joined.spanned.least v lt in
      let begin = begin_at one.0 (get_or s.label v 0) one.1 one.2 in
      let least : get_or s.place one.0 0 + get_or s.below (get_or s.label v 0) 0 ≡ MIDDLE = one.3 in
      (one.0, back one.0 one.1, numbered.same one.0 v one.1 lt one.2, (omega arith))

  pub sound : IsSound sizes (tie_links ties) class offset size
  sound = record {
    classes = record {
      all = numbered.counted ∙ joined.spanned.counted;
      joined = λ v w lt_v lt_w. ((λ walk. (apart v w walk.0 (there v lt_v) walk.1).0), (λ e. (_, led v w (there v lt_v) (there w lt_w) e)));
      rising = λ v number lt less. numbered.rising v number (there v lt) less;
    };
    offsets = record {
      all = offsets ∙ joined.spanned.counted;
      apart = λ v w by lt_v lt_w leads. (apart v w by (there v lt_v) leads).1;
      least = λ v lt. first_of v (there v lt);
    };
    ends = record {
      known = λ v lt. (let known : get_or class v 0 < length order = numbered.known v (there v lt) in omega arith);
      within = λ v lt. inside v (there v lt);
      reached = last_of;
    };
    units = λ v i w j lt_v lt_w. (units_on v i w j (there v lt_v), units_back v i w j (there v lt_v) (there w lt_w));
  }
