-- Where no module is free and none lies on a cycle, each module has a mark: else a trail of modules without
-- marks, each used by the one before it, would never end.
use Rattle.std.proofs.Common.{◌≡◌, ℕ, zero, suc, ◌+◌, ◌<◌, ◌≤◌, eqb, Bool, true, false, List, [], ◌∷◌, ◌++◌, length, get_or, All, Contains, ◌⊎◌, inl, inr, refl, sym, subst, arith}
use Rattle.std.specs.List.{AllByRecursion, IsDistinct, list_any}
use Rattle.std.proofs.lemmas.Bool.{cases_Bool, eqb-true}
use Rattle.std.proofs.lemmas.List.Elements.{All-cons, All-contains, All-nil}
use Rattle.std.proofs.lemmas.Map.Keys.{IsDistinct-cons}
use Rattle.std.proofs.lemmas.Map.Steps.{length-le_from_distinct_below}
use Rattle.std.proofs.lemmas.Map.Views.{Contains-from_any}
use Rattle.ftn_base.specs.ModuleUses.{AreKnown, Uses, used_by}
use Rattle.ftn_base.specs.ModuleCycles.{IsChain, IsOnCycle}
use Rattle.ftn_base.specs.ModuleOrders.{IsOrder}
use Rattle.module_graph.specs.steps.Marks.{IsFree, IsMarked, IsStuck, IsUnmarked}
use Rattle.module_graph.proofs.Chains.{chain_more}
use Rattle.module_graph.proofs.Listing.{used_known}
use Rattle.module_graph.proofs.Marking.{all_or_one, front_cases, none_in}
use Rattle.module_graph.proofs.Placed.{free_is_ready}

-- the trail, the last module first
abbrev Trail : List (List ℕ) → ℕ → List ℕ → Type 0
Trail uses last [] = Unit
Trail uses last (earlier ∷ trail) = Uses uses earlier last × Trail uses earlier trail

abbrev Leads : List (List ℕ) → ℕ → ℕ → Type 0
Leads uses first last = (first ≡ last) ⊎ ((between : List ℕ) × IsChain uses first between last)

leads_on : (uses : List (List ℕ)) (first last next : ℕ) → Leads uses first last → Uses uses last next → (between : List ℕ) × IsChain uses first between next
leads_on uses first last next (inl e) used = ([], subst (λ (n : ℕ). Uses uses n next) (sym e) used)
leads_on uses first last next (inr chain) used = (chain.0 ++ last ∷ [], chain_more uses first chain.0 last next chain.1 used)

-- each module of the trail leads to its last
leads_to_last : (uses : List (List ℕ)) (last : ℕ) (trail : List ℕ) (number : ℕ) → Trail uses last trail → Contains (last ∷ trail) number → Leads uses number last
leads_to_last uses last [] number t c = elim (front_cases last [] number c) [
  | inl e ↦ inl (sym e)
  | inr none ↦ absurd (none_in number none)
]
leads_to_last uses last (earlier ∷ trail) number t c = elim (front_cases last (earlier ∷ trail) number c) [
  | inl e ↦ inl (sym e)
  | inr rest ↦ inr (leads_on uses number earlier last (leads_to_last uses earlier trail number t.1 rest) t.0)
]

apart : (number x : ℕ) (xs : List ℕ) (here : Bool) → eqb number x ≡ here → list_any (eqb number) (x ∷ xs) ≡ false → (eqb number x ≡ false) × (list_any (eqb number) xs ≡ false)
apart number x xs true e none = absurd cc
apart number x xs false e none = (e, simp e at none)

all_apart : (number : ℕ) (xs : List ℕ) → list_any (eqb number) xs ≡ false → AllByRecursion (λ y. eqb number y ≡ false) xs
all_apart number [] none = tt
all_apart number (x ∷ xs) none = let both = apart number x xs (eqb number x) refl none in (both.0, all_apart number xs both.1)

module _ (uses : List (List ℕ)) (marks : List Bool) (known : AreKnown uses) (no_free : (number : ℕ) → IsFree uses marks number → ⊥) (no_cycle : (number : ℕ) → IsOnCycle uses number → ⊥) where
  abbrev IsLeft : ℕ → Type 0
  IsLeft number = (number < length uses) × IsUnmarked marks number

  record IsTrail (last : ℕ) (trail : List ℕ) : Type 0 where
    pub steps : Trail uses last trail
    pub distinct : IsDistinct eqb (last ∷ trail)
    pub left : All IsLeft (last ∷ trail)

  longer : (last : ℕ) (trail : List ℕ) → IsTrail last trail → (next : ℕ) → Uses uses last next → IsUnmarked marks next → IsTrail next (last ∷ trail)
  longer last trail t next used bare = record {
    steps = (used, t.steps);
    distinct = IsDistinct-cons eqb next (last ∷ trail) (all_apart next (last ∷ trail) (elim (cases_Bool (list_any (eqb next) (last ∷ trail))) [
      | inl among ↦ absurd (no_cycle next (leads_on uses next last next (leads_to_last uses last trail next t.steps (Contains-from_any eqb-true next (last ∷ trail) among)) used))
      | inr none ↦ none
    ])) t.distinct;
    left = All-cons IsLeft next (last ∷ trail) (used_known uses last next known used, bare) t.left;
  }

  on : (last : ℕ) (trail : List ℕ) → IsTrail last trail → (next : ℕ) × IsTrail next (last ∷ trail)
  on last trail t =
      let here : IsLeft last = t.left 0 0 (omega arith) in
      elim (all_or_one marks (used_by uses last)) [
        | inl all ↦ absurd (no_free last (record { known = here.0; absent = here.1; served = all }))
        | inr one ↦ (one.0, longer last trail t one.0 one.1 one.2)
      ]

  long : (count last : ℕ) (trail : List ℕ) → IsTrail last trail → (end : ℕ) × (more : List ℕ) × (length more ≡ count + length trail) × IsTrail end more
  long zero last trail t = (last, trail, omega arith, t)
  long (suc count) last trail t =
      let next = on last trail t in
      let more = long count next.0 (last ∷ trail) next.1 in
      let size : length more.1 ≡ count + suc (length trail) = more.2 in
      (more.0, more.1, omega arith, more.3)

  too_long : (last : ℕ) (trail : List ℕ) → IsTrail last trail → suc (length trail) ≤ length uses
  too_long last trail t = length-le_from_distinct_below (last ∷ trail) (length uses) t.distinct (λ q among. (All-contains IsLeft (last ∷ trail) q t.left (Contains-from_any eqb-true q (last ∷ trail) among)).0)

  first : (number : ℕ) → number < length uses → IsUnmarked marks number → IsTrail number []
  unfolding IsDistinct
  first number lt bare = record { steps = tt; distinct = (tt, tt); left = All-cons IsLeft number [] (lt, bare) (All-nil IsLeft) }

  pub all_marked : (number : ℕ) → number < length uses → IsMarked marks number
  all_marked number lt = elim (cases_Bool (get_or marks number false)) [
    | inl mark ↦ mark
    | inr bare ↦ absurd (
        let far = long (length uses) number [] (first number lt bare) in
        let size : length far.1 ≡ length uses + 0 = far.2 in
        let most : suc (length far.1) ≤ length uses = too_long far.0 far.1 far.3 in
        omega arith)
  ]

pub complete : (uses : List (List ℕ)) (list : List ℕ) (marks : List Bool) → AreKnown uses → IsStuck uses list marks → ((number : ℕ) → IsOnCycle uses number → ⊥) → IsOrder uses list
complete uses list marks known stuck none = record {
  each = stuck.placed.greedy;
  all = λ number lt. stuck.placed.listed number
      (all_marked uses marks known (λ n free. stuck.stuck n (free_is_ready uses list marks stuck.placed n free)) none number lt);
}
