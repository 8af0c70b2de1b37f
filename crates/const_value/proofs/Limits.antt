-- Counts as 64 bits hold them: of sums and products.
use Rattle.std.proofs.Common.{◌≡◌, ℕ, zero, suc, ◌+◌, ◌*◌, ◌-◌, ◌^◌, ◌<◌, ◌≤◌, min, Option, Some, None, ◌⊎◌, inl, inr, option_map, refl, sym, ap, ap₂, ◌∙◌, cond, false, true, pos, negsuc, ◌+ℤ◌, arith}
use Rattle.std.specs.Prelude.{ℤ, ◌-ℤ◌, int_lt, nat_lt}
use Rattle.std.proofs.Math.Nat.{suc-mul}
use Rattle.std.proofs.lemmas.Bool.{cases_lt}
use Rattle.std.proofs.lemmas.Bool.Decides.{nat_tests}
use Rattle.std.proofs.lemmas.Int.{ints}
use Rattle.ftn_tree.specs.Arrays.{at_least_zero, axis_from, from_low, next_axis, span}
use Rattle.const_value.specs.steps.Runs.{limited, next_from}

-- a limit that a number passes
module _ (most : ℕ) where
  pub times : (e n : ℕ) → min (e * min n most) most ≡ min (e * n) most
  times e n = by (cases_lt most n) where
    by : (most < n) ⊎ (n ≤ most) → min (e * min n most) most ≡ min (e * n) most
    by (inr le) = let same : min n most ≡ n = omega arith in ap (λ k. min (e * k) most) same
    by (inl over) = at e where
      at : (e : ℕ) → min (e * min n most) most ≡ min (e * n) most
      at zero = omega arith
      at (suc e) =
          let whole : min n most ≡ most = omega arith in
          let one : suc e * min n most ≡ e * min n most + min n most = suc-mul e (min n most) in
          let two : suc e * n ≡ e * n + n = suc-mul e n in
          omega (arith, over, whole, one, two)

  pub plus : (a n : ℕ) → min (a + min n most) most ≡ min (a + n) most
  plus a n = omega arith

pub limited_times : (e n : ℕ) → limited (e * limited n) ≡ limited (e * n)
limited_times e n = times (2 ^ 64 - 1) e n

pub limited_plus : (a n : ℕ) → limited (a + limited n) ≡ limited (a + n)
limited_plus a n = plus (2 ^ 64 - 1) a n

-- the place of an element by its first subscript and its place in the other dimensions
pub place_limited : (a e n : ℕ) → limited (a + limited (e * limited n)) ≡ limited (a + e * n)
place_limited a e n = ap (λ k. limited (a + k)) (limited_times e n) ∙ limited_plus a (e * n)

-- ---- one subscript

distance_is : (z : ℤ) (n : ℕ) → z ≡ pos n → pos (at_least_zero z) ≡ z
distance_is z n is = ap (λ x. pos (at_least_zero x)) is ∙ sym is

natural : (low z : ℤ) → int_lt z low ≡ false → (n : ℕ) × (z -ℤ low ≡ pos n)
natural low z less = by (z -ℤ low) refl where
  by : (d : ℤ) → z -ℤ low ≡ d → (n : ℕ) × (z -ℤ low ≡ pos n)
  by (pos n) is = (n, is)
  by (negsuc n) is = absurd (no n is)
    where
      no : (n : ℕ) → z -ℤ low ≡ negsuc n → ⊥
      no n is = let bad : int_lt z low ≡ true = grind (arith, ints) in cc

in_span : (low high z : ℤ) (a : ℕ) → z -ℤ low ≡ pos a → int_lt high z ≡ false → nat_lt a (span low high) ≡ true
in_span low high z a is less = by ((high -ℤ low) +ℤ pos 1) refl where
  by : (d : ℤ) → (high -ℤ low) +ℤ pos 1 ≡ d → nat_lt a (at_least_zero d) ≡ true
  by (pos m) e = grind (arith, ints, nat_tests)
  by (negsuc m) e = grind (arith, ints, nat_tests)

pub placed : (low high z : ℤ) (n : Option ℕ) (place e m r : ℕ) → Some place ≡ option_map limited n → int_lt z low ≡ false → int_lt high z ≡ false → e ≡ span low high → m ≡ limited (e * place)
    → r ≡ limited (at_least_zero (z -ℤ low) + m) → Some r ≡ option_map limited (next_from (low, high) z n)
placed low high z None place e m r there below above ext times_is plus_is = absurd (cc)
placed low high z (Some k) place e m r there below above ext times_is plus_is =
    let d = natural low z below in
    let a = d.0 in
    let far : at_least_zero (z -ℤ low) ≡ a = ap at_least_zero d.1 in
    let same : place ≡ limited k = cc in
    ap Some (plus_is ∙ ap₂ (λ x y. limited (x + y)) far (times_is ∙ ap₂ (λ x y. limited (x * y)) ext same) ∙ place_limited a (span low high) k)
    ∙ sym (ap (λ x. option_map limited (next_axis (axis_from (low, high)) (from_low (Some (span low high)) x) (Some k))) d.1
    ∙ ap (λ t. option_map limited (next_axis (axis_from (low, high)) (cond t (Some a) None) (Some k))) (in_span low high z a d.1 above))
