-- Tests of numbers as facts, and the numbers below one more.
use Rattle.std.proofs.Common.{zero, suc, ◌≡◌, ◌≢◌, ◌<◌, ◌+◌, ℕ, ℤ, pos, negsuc, ◌⊎◌, inl, inr, Bool, true, false, nat_eq, refl, arith}
use Rattle.std.proofs.lemmas.Int.{ints}
use Rattle.std.proofs.lemmas.Bool.Decides.{nat_tests}
use Rattle.std.proofs.lemmas.Bool.{eqb-true}

pub test_apart : (a b : ℕ) → a ≢ b → nat_eq a b ≡ false
test_apart a b e = grind (arith, nat_tests)

pub lt_split : (v count : ℕ) → v < count + 1 → (v < count) ⊎ (v ≡ count)
lt_split v count lt = by_case (nat_eq v count) refl
  where
    by_case : (b : Bool) → nat_eq v count ≡ b → (v < count) ⊎ (v ≡ count)
    by_case true e = inr (eqb-true v count e)
    by_case false e = inl (grind (arith, nat_tests, e))

-- what is not other than 0 is 0
pub zero_by : (by : ℤ) → ((by ≢ pos 0) → ⊥) → by ≡ pos 0
zero_by (pos zero) h = refl
zero_by (pos (suc n)) h = absurd (h (λ e. absurd (omega (arith, ints, e))))
zero_by (negsuc n) h = absurd (h (λ e. absurd (omega (arith, ints, e))))
