-- A program with a module variable, a function and a subroutine is lawful.
use Rattle.std.proofs.Common.{◌≡◌, ◌+◌, ℕ, zero, suc, List, [], ◌∷◌, refl, ap, subst, inl, inr, arith}
use Rattle.std.specs.Prelude.{slice_get, Option, Some, None}
use Rattle.core_prog.specs.Lawful.{IsLawful, IsArea, IsAtHome, IsDummyOf, IsProcedure}
use Rattle.core_prog.proofs.StepExamples.{getter_and_setter}

-- P holds of each element of a list, with its number
abbrev Each : {A : Type 0} → (ℕ → A → Type 0) → ℕ → List A → Type 0
Each P n [] = Unit {0}
Each P n (a ∷ rest) = P n a × Each P (suc n) rest

abbrev of_some : {A : Type 0} → A → Option A → A
of_some a None = a
of_some a (Some b) = b

each_at : {A : Type 0} (P : ℕ → A → Type 0) (n : ℕ) (all : List A) → Each P n all → (i : ℕ) (a : A) → slice_get all i ≡ Some a → P (n + i) a
each_at P n [] h i a e = absurd (cc e)
each_at P n (b ∷ rest) h zero a e = let same : n ≡ n + 0 = omega arith in subst (λ m. P m a) same (subst (P n) (ap (of_some b) e) h.0)
each_at P n (b ∷ rest) h (suc i) a e = let same : suc n + i ≡ n + suc i = omega arith in subst (λ m. P m a) same (each_at P (suc n) rest h.1 i a e)

-- the same, counted from 0
each_from : {A : Type 0} (P : ℕ → A → Type 0) (all : List A) → Each P 0 all → (i : ℕ) (a : A) → slice_get all i ≡ Some a → P i a
each_from P all h i a e = let same : 0 + i ≡ i = omega arith in subst (λ m. P m a) same (each_at P 0 all h i a e)

areas_lawful : Each (IsArea getter_and_setter) 0 getter_and_setter.areas
areas_lawful = (record { begins = refl; given = omega arith; emptier = tt }, (record { begins = refl; given = omega arith; emptier = omega arith }, tt))

-- the module variable, the function's result, the subroutine's dummy argument
variables_lawful : Each (λ number v. IsAtHome getter_and_setter number v v.home) 0 getter_and_setter.variables
variables_lawful = (
  record { area = _; there = refl; fixed = refl; some = omega arith; inside = omega arith; owned = tt; emptier = inl refl },
  (
    record { area = _; there = refl; fixed = refl; some = omega arith; inside = omega arith; owned = omega arith; emptier = inr refl },
    (record { proc = _; there = refl; listed = refl; bounds = refl }, tt),
  ),
)

dummy_lawful : Each (λ position dummy. IsDummyOf getter_and_setter 1 position (slice_get getter_and_setter.variables dummy)) 0 (2 ∷ [])
dummy_lawful = (refl, tt)

procedures_lawful : Each (IsProcedure getter_and_setter) 0 getter_and_setter.procedures
procedures_lawful = (
  record { dummies = each_from (λ position dummy. IsDummyOf getter_and_setter 0 position (slice_get getter_and_setter.variables dummy)) [] tt; result = refl; body = refl },
  (record { dummies = each_from (λ position dummy. IsDummyOf getter_and_setter 1 position (slice_get getter_and_setter.variables dummy)) (2 ∷ []) dummy_lawful; result = tt; body = refl }, tt),
)

pub getter_and_setter_is_lawful : IsLawful getter_and_setter
getter_and_setter_is_lawful = record {
  areas = each_from (IsArea getter_and_setter) getter_and_setter.areas areas_lawful;
  few = omega arith;
  variables = each_from (λ number v. IsAtHome getter_and_setter number v v.home) getter_and_setter.variables variables_lawful;
  procedures = each_from (IsProcedure getter_and_setter) getter_and_setter.procedures procedures_lawful;
  statements = refl;
}
