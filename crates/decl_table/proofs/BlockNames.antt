-- The names of blocks in the statements of a unit, one more statement at a time.
use Rattle.std.proofs.Common.{◌≡◌, ℕ, zero, suc, ◌+◌, ◌-◌, ◌≤◌, ◌<◌, arith, List, [], ◌∷◌, ◌++◌, sym, ap, ◌∙◌}
use Rattle.std.specs.List.{flat_map, range_with_len}
use Rattle.std.proofs.lemmas.List.{flat_map_more}

last_is : (a : ℕ) → a ≡ a + zero
last_is a = omega arith

later_is : (a n : ℕ) → a + 1 + n ≡ a + suc n
later_is a n = omega arith

range_more : (a n : ℕ) → range_with_len a (suc n) ≡ range_with_len a n ++ (a + n) ∷ []
range_more a zero = ap (λ k. k ∷ []) (last_is a)
range_more a (suc n) = ap (λ ks. a ∷ ks) (range_more (a + 1) n ∙ ap (λ k. range_with_len (a + 1) n ++ k ∷ []) (later_is a n))

counted : (opening at : ℕ) → opening ≤ at → at + 1 - opening ≡ suc (at - opening)
counted opening at low = omega (arith, low)

back : (opening at : ℕ) → opening ≤ at → opening + (at - opening) ≡ at
back opening at low = omega (arith, low)

pub more_statements : {X : Type 0} (f : ℕ → List X) (start made now : List X) (opening at : ℕ) → opening ≤ at → made ≡ start ++ flat_map f (range_with_len opening (at - opening))
    → now ≡ made ++ f at → now ≡ start ++ flat_map f (range_with_len opening (at + 1 - opening))
more_statements f start made now opening at low before pushed =
    pushed ∙ ap (λ xs. xs ++ f at) before ∙ flat_map_more f start (range_with_len opening (at - opening)) at
    ∙ ap (λ k. start ++ flat_map f (range_with_len opening (at - opening) ++ k ∷ [])) (sym (back opening at low))
    ∙ ap (λ ks. start ++ flat_map f ks) (sym (range_more opening (at - opening)) ∙ ap (range_with_len opening) (sym (counted opening at low)))

pub within : (opening at end : ℕ) → opening ≤ at → at < end → at + 1 - opening ≤ end - opening
within opening at end low less = omega (arith, low, less)

-- at the end, which may lie before the opening
pub all_of_them : (opening at end : ℕ) → at - opening ≤ end - opening → end ≤ at → at - opening ≡ end - opening
all_of_them opening at end high past = omega (arith, high, past)
