-- Maps of letters that are written row by row.
use Rattle.std.proofs.Common.{◌≡◌, ◌≤◌, ◌<◌, ◌-◌, ◌+◌, ℕ, zero, suc, Bool, true, false, Option, List, [], ◌∷◌, ◌++◌, map, length, get_or, set, take, refl, sym, ap, ◌∙◌, inl, inr, arith, if◌then◌else◌}
use Rattle.std.specs.List.{find, range_with_len}
use Rattle.std.proofs.lemmas.Bool.{cases_eq}
use Rattle.std.proofs.lemmas.Bool.Decides.{nat_tests}
use Rattle.std.proofs.lemmas.List.{ext_get_or, get_or-set_same, get_or-set_other, take_all, take_more_set}
use Rattle.std.proofs.lemmas.List.FromFn.{length-map-range_with_len, get_or-map-range_with_len, map-range_with_len_more}
use Rattle.ftn_base.specs.Letters.{is_within}
use Rattle.ftn_base.specs.declared.entity.Letter.TheVariants.{Nothing}
use Rattle.ftn_base.specs.ImplicitLetters.{Entry, alphabet, entry_of, type_of, with_entry, inner}

module _ {X : Type 0} (f g : ℕ → X) where
  -- two functions that agree at the numbers of a range
  pub same_between : (a n : ℕ) → ((k : ℕ) → a ≤ k → k < a + n → f k ≡ g k) → map f (range_with_len a n) ≡ map g (range_with_len a n)
  same_between a zero h = refl
  same_between a (suc n) h =
      let rest : map f (range_with_len (a + 1) n) ≡ map g (range_with_len (a + 1) n) =
      same_between (a + 1) n (λ k low high. h k (omega arith) (omega arith)) in
      ap (λ y. y ∷ map f (range_with_len (a + 1) n)) (h a (omega arith) (omega arith)) ∙ ap (λ ys. g a ∷ ys) rest

within : (low high b : ℕ) → low ≤ b → b ≤ high → is_within low high b ≡ true
within low high b above below = grind (arith, nat_tests)

beneath : (low high b : ℕ) → b < low → is_within low high b ≡ false
beneath low high b under = grind (arith, nat_tests)

beside : (low high b : ℕ) → (b ≡ low → ⊥) → is_within low high b ≡ is_within (low + 1) high b
beside low high b other = grind (arith, nat_tests)

-- one letter, where the row of the first letter is written
at_letter : (from to : ℕ) (entry : Entry) (entries : List Entry) (letter : ℕ) → 97 ≤ from → from ≤ to → to ≤ 122 → 97 ≤ letter → length entries ≡ 26 →
    (if is_within from to letter then entry else entry_of letter entries)
    ≡ (if is_within (from + 1) to letter then entry else entry_of letter (set entries (from - 97) entry))
at_letter from to entry entries letter low ordered high at long =
    elim (cases_eq letter from) [
      | inl same ↦
          rw (same, within from to from (omega arith) ordered, beneath (from + 1) to from (omega arith))
          (sym (get_or-set_same entries (from - 97) entry (Nothing, false) (omega arith)))
      | inr other ↦
          rw (beside from to letter other, get_or-set_other entries (from - 97) (letter - 97) entry (Nothing, false) (omega arith)) refl
    ]

pub put_one : (from to : ℕ) (entry : Entry) (entries : List Entry) → 97 ≤ from → from ≤ to → to ≤ 122 → length entries ≡ 26 →
    with_entry from to entry entries ≡ with_entry (from + 1) to entry (set entries (from - 97) entry)
unfolding alphabet
put_one from to entry entries low ordered high long =
    same_between _ _ 97 26 (λ letter at below. at_letter from to entry entries letter low ordered high at long)

-- as many rows as there are letters
whole : (f : ℕ → Entry) (entries : List Entry) → length entries ≡ 26 → ((k : ℕ) → k < 26 → f (k + 97) ≡ get_or entries k (Nothing, false)) → map f alphabet ≡ entries
unfolding alphabet
whole f entries long each =
    ext_get_or (Nothing, false) (map f (range_with_len 97 26)) entries (length-map-range_with_len f 97 26 ∙ sym long) (λ k lt.
    let few : k < 26 = omega (arith, length-map-range_with_len f 97 26) in
    get_or-map-range_with_len f 97 26 k (k + 97) (Nothing, false) few (omega arith) ∙ each k few)

-- a range that is done
pub put_none : (from to : ℕ) (entry : Entry) (entries : List Entry) → to < from → length entries ≡ 26 →
    with_entry from to entry entries ≡ entries
put_none from to entry entries done long =
    whole (λ letter. if is_within from to letter then entry else entry_of letter entries) entries long (λ k few. rw (outside (k + 97), back k) refl)
  where
    outside : (letter : ℕ) → is_within from to letter ≡ false
    outside letter = grind (arith, nat_tests)

    back : (k : ℕ) → k + 97 - 97 ≡ k
    back k = omega arith

-- one more row of the map of an inner scoping unit
pub inner_more : (old entries : List Entry) (n : ℕ) → n < 26 → length entries ≡ 26 →
    take n entries ≡ map (λ letter. (type_of letter old, false)) (range_with_len 97 n) →
    take (n + 1) (set entries n ((get_or old n (Nothing, false)).0, false)) ≡ map (λ letter. (type_of letter old, false)) (range_with_len 97 (n + 1))
inner_more old entries n few long made =
    take_more_set entries n row (omega arith)
    ∙ ap (λ rows. rows ++ row ∷ []) made
    ∙ ap (λ k. map (λ letter. (type_of letter old, false)) (range_with_len 97 n) ++ ((get_or old k (Nothing, false)).0, false) ∷ []) back
    ∙ sym (map-range_with_len_more (λ letter. (type_of letter old, false)) 97 n (97 + n) refl)
  where
    row : Entry
    row = ((get_or old n (Nothing, false)).0, false)

    back : n ≡ 97 + n - 97
    back = omega arith

pub inner_done : (old entries : List Entry) (n : ℕ) → 26 ≤ n → n ≤ 26 → length entries ≡ 26 →
    take n entries ≡ map (λ letter. (type_of letter old, false)) (range_with_len 97 n) →
    entries ≡ inner old
unfolding alphabet
inner_done old entries n many few long made =
    let all : n ≡ 26 = omega arith in
    sym (take_all n entries (omega arith)) ∙ made ∙ ap (λ k. map (λ letter. (type_of letter old, false)) (range_with_len 97 k)) all

-- one more row of a map that is made row by row
pub made_more : (f : ℕ → Entry) (entries : List Entry) (n : ℕ) (entry : Entry) → n < length entries → entry ≡ f (97 + n) →
    take n entries ≡ map f (range_with_len 97 n) → take (n + 1) (set entries n entry) ≡ map f (range_with_len 97 (n + 1))
made_more f entries n entry few is made =
    take_more_set entries n entry few
    ∙ ap (λ rows. rows ++ entry ∷ []) made
    ∙ ap (λ entry. map f (range_with_len 97 n) ++ entry ∷ []) is
    ∙ sym (map-range_with_len_more f 97 n (97 + n) refl)

pub made_done : (f : ℕ → Entry) (entries : List Entry) (n : ℕ) → 26 ≤ n → n ≤ 26 → length entries ≡ 26 →
    take n entries ≡ map f (range_with_len 97 n) → entries ≡ map f alphabet
unfolding alphabet
made_done f entries n many few long made =
    let all : n ≡ 26 = omega arith in
    sym (take_all n entries (omega arith)) ∙ made ∙ ap (λ k. map f (range_with_len 97 k)) all

-- a search through numbers, one after the other
pub found_next : (test : ℕ → Bool) (found : Option ℕ) (at end : ℕ) → at < end → test at ≡ false → found ≡ find test (range_with_len at (end - at))
    → found ≡ find test (range_with_len (at + 1) (end - (at + 1)))
found_next test found at end less fails is = is ∙ ap (λ n. find test (range_with_len at n)) left ∙ rw fails refl where
  left : end - at ≡ suc (end - (at + 1))
  left = omega arith
