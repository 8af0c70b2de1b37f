-- How deep parentheses nest is found by counting them.
use Rattle.std.proofs.Common.{◌≡◌, refl, ap, sym, ◌∙◌, arith, ℕ, zero, suc, ◌+◌, ◌≤◌, ◌<◌, Bool, true, false, ◌||◌, List, [], ◌∷◌, length, take}
use Rattle.std.specs.Prelude.{nat_lt, filter, cond, IsTrue, ◌↔◌}
use Rattle.std.proofs.lemmas.Grind.{common_steps}
use Rattle.std.proofs.lemmas.Bool.{le-ltb}
use Rattle.ftn_base.specs.Limits.{most_parentheses}
use Rattle.ftn_tree.specs.declared.token.Token.{Token}
use Rattle.ftn_tree.specs.Misfits.{is_open, is_close, IsDeep}
use Rattle.expr_parse.specs.steps.Faults.{one_if, deep_from, is_deep}

abbrev count : (Token → Bool) → List Token → ℕ
count test row = length (filter test row)

count_more : (test : Token → Bool) (here : Token) (row : List Token) → count test (here ∷ row) ≡ one_if (test here) + count test row
count_more test here row = by (test here) where
  by : (holds : Bool) → length (cond holds (here ∷ filter test row) (filter test row)) ≡ one_if holds + count test row
  by true = grind (arith, common_steps)
  by false = grind (arith, common_steps)

-- some front is too deep, where so many were opened and closed before
record DeepAt (opened closed : ℕ) (row : List Token) : Type 0 where
  front : ℕ
  many : most_parentheses + (closed + count is_close (take front row)) < opened + count is_open (take front row)

-- a front of one token and more
longer_front : (opened closed front : ℕ) (here : Token) (rest : List Token) → most_parentheses + ((closed + one_if (is_close here)) + count is_close (take front rest)) < (opened + one_if (is_open here)) + count is_open (take front rest)
    → DeepAt opened closed (here ∷ rest)
longer_front opened closed front here rest many = record {
  front = suc front;
  many = by (count is_close (here ∷ take front rest)) (count is_open (here ∷ take front rest)) (one_if (is_close here)) (one_if (is_open here)) (count is_close (take front rest)) (count is_open (take front rest))
      (count_more is_close here (take front rest)) (count_more is_open here (take front rest)) many;
} where
  by : (closes opens close_here open_here closes_after opens_after : ℕ) → closes ≡ close_here + closes_after → opens ≡ open_here + opens_after
      → most_parentheses + ((closed + close_here) + closes_after) < (opened + open_here) + opens_after → most_parentheses + (closed + closes) < opened + opens
  by closes opens close_here open_here closes_after opens_after a b c = omega arith

deep_found : (row : List Token) (opened closed : ℕ) → deep_from opened closed row ≡ true → DeepAt opened closed row
deep_found [] opened closed e = absurd (cc e)
deep_found (here ∷ rest) opened closed e = by (nat_lt (most_parentheses + (closed + one_if (is_close here))) (opened + one_if (is_open here))) refl e (λ e. deep_found rest (opened + one_if (is_open here)) (closed + one_if (is_close here)) e) where
  at_once : (closes opens : ℕ) → nat_lt (most_parentheses + closes) opens ≡ true → most_parentheses + (closes + 0) < opens + 0
  at_once closes opens e = grind arith

  by : (deep : Bool) → nat_lt (most_parentheses + (closed + one_if (is_close here))) (opened + one_if (is_open here)) ≡ deep
      → (deep || deep_from (opened + one_if (is_open here)) (closed + one_if (is_close here)) rest) ≡ true
      → (deep_from (opened + one_if (is_open here)) (closed + one_if (is_close here)) rest ≡ true → DeepAt (opened + one_if (is_open here)) (closed + one_if (is_close here)) rest) → DeepAt opened closed (here ∷ rest)
  by true deep e later = longer_front opened closed 0 here rest (at_once (closed + one_if (is_close here)) (opened + one_if (is_open here)) deep)
  by false deep e later = let found = later e in longer_front opened closed found.front here rest found.many

empty_front : (opened closed : ℕ) → (most_parentheses + closed < opened → ⊥) → most_parentheses + (closed + 0) < opened + 0 → ⊥
empty_front opened closed small many = small (same many) where
  same : most_parentheses + (closed + 0) < opened + 0 → most_parentheses + closed < opened
  same many = omega arith

deep_none : (row : List Token) (opened closed : ℕ) → deep_from opened closed row ≡ false → (most_parentheses + closed < opened → ⊥) → (front : ℕ)
    → most_parentheses + (closed + count is_close (take front row)) < opened + count is_open (take front row) → ⊥
deep_none [] opened closed e small zero many = empty_front opened closed small many
deep_none [] opened closed e small (suc front) many = empty_front opened closed small many
deep_none (here ∷ rest) opened closed e small zero many = empty_front opened closed small many
deep_none (here ∷ rest) opened closed e small (suc front) many =
    by (nat_lt (most_parentheses + (closed + one_if (is_close here))) (opened + one_if (is_open here))) refl e
    (λ e small many. deep_none rest (opened + one_if (is_open here)) (closed + one_if (is_close here)) e small front many) where
      shallow : (closes opens : ℕ) → nat_lt (most_parentheses + closes) opens ≡ false → most_parentheses + closes < opens → ⊥
      shallow closes opens e many = absurd (cc (sym e ∙ is_lt many)) where
        is_lt : most_parentheses + closes < opens → nat_lt (most_parentheses + closes) opens ≡ true
        is_lt many = grind arith

      onward : (closes opens close_here open_here closes_after opens_after : ℕ) → closes ≡ close_here + closes_after → opens ≡ open_here + opens_after
          → most_parentheses + (closed + closes) < opened + opens → most_parentheses + ((closed + close_here) + closes_after) < (opened + open_here) + opens_after
      onward closes opens close_here open_here closes_after opens_after a b c = omega arith

      by : (deep : Bool) → nat_lt (most_parentheses + (closed + one_if (is_close here))) (opened + one_if (is_open here)) ≡ deep
          → (deep || deep_from (opened + one_if (is_open here)) (closed + one_if (is_close here)) rest) ≡ false
          → (deep_from (opened + one_if (is_open here)) (closed + one_if (is_close here)) rest ≡ false → (most_parentheses + (closed + one_if (is_close here)) < opened + one_if (is_open here) → ⊥)
          → most_parentheses + ((closed + one_if (is_close here)) + count is_close (take front rest)) < (opened + one_if (is_open here)) + count is_open (take front rest) → ⊥) → ⊥
      by true deep e later = absurd (cc e)
      by false deep e later =
          later e (shallow (closed + one_if (is_close here)) (opened + one_if (is_open here)) deep)
          (onward (count is_close (here ∷ take front rest)) (count is_open (here ∷ take front rest)) (one_if (is_close here)) (one_if (is_open here)) (count is_close (take front rest)) (count is_open (take front rest))
          (count_more is_close here (take front rest)) (count_more is_open here (take front rest)) many)

deep_is : (row : List Token) → is_deep row ≡ true → IsDeep row
unfolding is_deep
deep_is row e = let found = deep_found row 0 0 e in record { front = found.front; many = by (count is_close (take found.front row)) (count is_open (take found.front row)) found.many } where
  by : (closes opens : ℕ) → most_parentheses + (0 + closes) < 0 + opens → most_parentheses + closes < opens
  by closes opens many = omega arith

deep_not : (row : List Token) → is_deep row ≡ false → IsDeep row → ⊥
unfolding is_deep
deep_not row e deep = deep_none row 0 0 e none deep.front (by (count is_close (take deep.front row)) (count is_open (take deep.front row)) deep.many) where
  none : most_parentheses + 0 < 0 → ⊥
  none many = absurd (omega arith)

  by : (closes opens : ℕ) → most_parentheses + closes < opens → most_parentheses + (0 + closes) < 0 + opens
  by closes opens many = omega arith

pub deep_decided : (row : List Token) (deep : Bool) → deep ≡ is_deep row → IsTrue deep ↔ IsDeep row
deep_decided row true e = ((λ holds. deep_is row (sym e)), (λ deep. refl))
deep_decided row false e = ((λ holds. absurd (cc holds)), (λ deep. absurd (deep_not row (sym e) deep)))

pub decided_deep : (row : List Token) (deep : Bool) → IsTrue deep ↔ IsDeep row → deep ≡ true → IsDeep row
decided_deep row true both e = both.0 refl
decided_deep row false both e = absurd (cc e)

pub decided_shallow : (row : List Token) (deep : Bool) → IsTrue deep ↔ IsDeep row → deep ≡ false → IsDeep row → ⊥
decided_shallow row true both e = absurd (cc e)
decided_shallow row false both e = λ deep. absurd (cc (both.1 deep))

small_one : (b : Bool) → one_if b ≤ 1
small_one true = omega arith
small_one false = omega arith

few_from : (row : List Token) (opened closed : ℕ) → opened + length row ≤ most_parentheses + closed → deep_from opened closed row ≡ false
few_from [] opened closed few = refl
few_from (here ∷ rest) opened closed few =
    let one : one_if (is_open here) ≤ 1 = small_one (is_open here) in
    let le : opened + one_if (is_open here) ≤ most_parentheses + (closed + one_if (is_close here)) = omega arith in
    let more : (opened + one_if (is_open here)) + length rest ≤ most_parentheses + (closed + one_if (is_close here)) = omega arith in
    ap (λ deep. deep || deep_from (opened + one_if (is_open here)) (closed + one_if (is_close here)) rest) (le-ltb (most_parentheses + (closed + one_if (is_close here))) (opened + one_if (is_open here)) le)
    ∙ few_from rest (opened + one_if (is_open here)) (closed + one_if (is_close here)) more

-- at most 200 tokens don't nest too deep
pub few_shallow : (row : List Token) → length row ≤ most_parentheses → false ≡ is_deep row
unfolding is_deep
few_shallow row few = let less : 0 + length row ≤ most_parentheses + 0 = omega arith in sym (few_from row 0 0 less)
