-- A power with a negative exponent.
use Rattle.std.proofs.Common.{◌≡◌, ℕ, zero, suc, ◌*◌, ◌/◌, ◌%◌, ◌^◌, ◌≤◌, Bool, true, false, ℤ, pos, negsuc, neg_ℤ, ◌<ℤ◌, refl, ap, ◌∙◌, cond, arith}
use Rattle.std.specs.Prelude.{◌==◌, ◌≢◌, int_rem, Ok}
use Rattle.std.specs.Int.{int_pow}
use Rattle.std.proofs.Math.Nat.{pow-le-pow_right, pow-suc, pow-zero, div-eq_of_lt}
use Rattle.std.proofs.lemmas.Bool.Decides.{nat_tests}
use Rattle.std.proofs.lemmas.Int.{ints}
use Rattle.ftn_base.specs.Arithmetic.{power, quotient}

one_pow : (n : ℕ) → 1 ^ n ≡ 1
one_pow zero = refl
one_pow (suc n) = pow-suc 1 n ∙ ap (λ (m : ℕ). m * 1) (one_pow n)

pow_one : (a : ℕ) → a ^ suc zero ≡ a
pow_one a = pow-suc a zero ∙ ap (λ (m : ℕ). m * a) (pow-zero a) ∙ once
  where
    once : 1 * a ≡ a
    once = omega arith

-- the power of a number from 2 on isn't less
great_pow : (a n : ℕ) → 2 ≤ a → 2 ≤ a ^ suc n
great_pow a n great =
    let one : a ^ suc zero ≤ a ^ suc n = pow-le-pow_right {n = a} (omega arith) {i = suc zero} {j = suc n} (omega arith) in
    let same : a ^ suc zero ≡ a = pow_one a in
    omega (arith, one, same)

-- 1 divided by what isn't less than 2
none_left : (m : ℕ) → 2 ≤ m → 1 / m ≡ 0
none_left m great = div-eq_of_lt (omega arith)

not_zero : (m : ℕ) → 2 ≤ m → (m == 0) ≡ false
not_zero m great = grind (arith, nat_tests)

quotient_right : (m : ℕ) → 2 ≤ m → quotient (pos 1) (pos m) ≡ Ok (pos 0)
quotient_right zero great = absurd (omega arith)
quotient_right (suc m) great = rw (not_zero (suc m) great, none_left (suc m) great) refl

quotient_left : (m : ℕ) → 2 ≤ m → quotient (pos 1) (neg_ℤ (pos m)) ≡ Ok (pos 0)
quotient_left zero great = absurd (omega arith)
quotient_left (suc m) great = rw (not_zero (suc m) great, none_left (suc m) great) refl

pub of_one : (z : ℤ) → z <ℤ pos 0 → power (pos 1) z ≡ Ok (pos 1)
of_one (pos n) below = absurd (omega (arith, ints))
of_one (negsuc n) below = ap (λ (m : ℕ). quotient (pos 1) (pos m)) (one_pow (suc n))

minus_one : (even : Bool) (m : ℕ) → m ≡ 1 → quotient (pos 1) (cond even (pos m) (neg_ℤ (pos m))) ≡ Ok (cond even (pos 1) (negsuc 0))
minus_one true m is = ap (λ (k : ℕ). quotient (pos 1) (pos k)) is
minus_one false m is = ap (λ (k : ℕ). quotient (pos 1) (neg_ℤ (pos k))) is

pub of_minus_one_even : (z : ℤ) → z <ℤ pos 0 → int_rem z (pos 2) ≡ pos 0 → power (negsuc 0) z ≡ Ok (pos 1)
of_minus_one_even (pos n) below is = absurd (omega (arith, ints))
of_minus_one_even (negsuc n) below is =
    let even : (suc n % 2 == 0) ≡ true = by (suc n % 2) is in
    minus_one (suc n % 2 == 0) (1 ^ suc n) (one_pow (suc n)) ∙ ap (λ (b : Bool). Ok (cond b (pos 1) (negsuc 0))) even
  where
    by : (m : ℕ) → neg_ℤ (pos m) ≡ pos 0 → (m == 0) ≡ true
    by zero is = refl
    by (suc m) is = cc

pub of_minus_one_odd : (z : ℤ) → z <ℤ pos 0 → int_rem z (pos 2) ≢ pos 0 → power (negsuc 0) z ≡ Ok (negsuc 0)
of_minus_one_odd (pos n) below is = absurd (omega (arith, ints))
of_minus_one_odd (negsuc n) below is =
    let odd : (suc n % 2 == 0) ≡ false = by (suc n % 2) is in
    minus_one (suc n % 2 == 0) (1 ^ suc n) (one_pow (suc n)) ∙ ap (λ (b : Bool). Ok (cond b (pos 1) (negsuc 0))) odd
  where
    by : (m : ℕ) → neg_ℤ (pos m) ≢ pos 0 → (m == 0) ≡ false
    by zero is = absurd (is refl)
    by (suc m) is = grind (arith, nat_tests)

great_left : (even : Bool) (m : ℕ) → 2 ≤ m → quotient (pos 1) (cond even (pos m) (neg_ℤ (pos m))) ≡ Ok (pos 0)
great_left true m great = quotient_right m great
great_left false m great = quotient_left m great

pub of_great : (base z : ℤ) → z <ℤ pos 0 → base ≢ pos 0 → base ≢ pos 1 → base ≢ negsuc 0 → power base z ≡ Ok (pos 0)
of_great base (pos n) below none one minus = absurd (omega (arith, ints))
of_great (pos zero) (negsuc n) below none one minus = absurd (none refl)
of_great (pos (suc zero)) (negsuc n) below none one minus = absurd (one refl)
of_great (pos (suc (suc a))) (negsuc n) below none one minus = quotient_right (suc (suc a) ^ suc n) (great_pow (suc (suc a)) n (omega arith))
of_great (negsuc zero) (negsuc n) below none one minus = absurd (minus refl)
of_great (negsuc (suc a)) (negsuc n) below none one minus = great_left (suc n % 2 == 0) (suc (suc a) ^ suc n) (great_pow (suc (suc a)) n (omega arith))
