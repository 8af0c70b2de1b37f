-- What uses lead to, where all is numbered in another way.
use Rattle.std.proofs.Common.{◌≡◌, subst, inl, inr, ℕ, zero, suc, true, List, nat_eq}
use Rattle.std.specs.List.{list_any}
use Rattle.std.proofs.lemmas.Bool.{eqb-true, or_cases}
use Rattle.std.proofs.lemmas.List.Folds.{Any-from_list_any}
use Rattle.ftn_base.specs.ModuleUses.{Uses, used_by}
use Rattle.ftn_tree.specs.NameFaults.{leads}
use Rattle.const_value.specs.steps.Components.{Leads}
use Rattle.const_value.proofs.Leading.{leads_by_use, leads_itself, leads_on}

module _ (U V : List (List ℕ)) (R : ℕ → ℕ → Type 0) (forth : (x n y : ℕ) → R x n → Uses U x y → (m : ℕ) × R y m × Uses V n m) where
  carry : (count x n y : ℕ) → R x n → leads U count x y ≡ true → (m : ℕ) × R y m × Leads V n m
  carry zero x n y r e = (n, subst (λ z. R z n) (eqb-true x y e) r, leads_itself V n)
  carry (suc count) x n y r e = elim (or_cases (nat_eq x y) (list_any (λ next. leads U count next y) (used_by U x)) e) [
    | inl same ↦ (n, subst (λ z. R z n) (eqb-true x y same) r, leads_itself V n)
    | inr some ↦
        let use_of = Any-from_list_any (λ next. leads U count next y) (used_by U x) some in
        let step : (m : ℕ) × R use_of.1 m × Uses V n m = forth x n use_of.1 r (use_of.0, use_of.2, use_of.3) in
        let rest : (m : ℕ) × R y m × Leads V step.0 m = carry count use_of.1 step.0 y step.1 use_of.4 in
        (rest.0, rest.1, leads_on V n step.0 rest.0 (leads_by_use V n step.0 step.2) rest.2)
  ]

  -- it leads to what the other is in the other numbers
  pub carried : (x n y : ℕ) → R x n → Leads U x y → (m : ℕ) × R y m × Leads V n m
  carried x n y r one = carry one.count x n y r one.is
