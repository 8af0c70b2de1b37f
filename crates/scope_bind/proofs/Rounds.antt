-- Lists that are made of one another in rounds, each of those that its module uses: where modules have an order, as many rounds as there are
-- modules are enough.
use Rattle.std.proofs.Common.{◌≡◌, ℕ, zero, suc, ◌<◌, ◌≤◌, true, false, eqb, List, [], map, take, length, get_or, Option, Some, None, slice_get, Contains, inl, inr, refl, sym, ap, subst, ◌∙◌, arith}
use Rattle.std.specs.List.{list_any}
use Rattle.std.specs.Option.{option_map, unwrap_or}
use Rattle.std.proofs.lemmas.Bool.{cases_Bool, eqb-true}
use Rattle.std.proofs.lemmas.List.{get_or_default}
use Rattle.std.proofs.lemmas.List.Elements.{All-contains, All-from_get_or}
use Rattle.std.proofs.lemmas.Map.Keys.{IsDistinct-from_apart}
use Rattle.std.proofs.lemmas.Map.Steps.{length-le_from_distinct_below}
use Rattle.std.proofs.lemmas.Map.Views.{Contains-from_any}
use Rattle.std.proofs.lemmas.Option.{slice_get-map, slice_get_within}
use Rattle.ftn_base.specs.Accessible.{exports_of}
use Rattle.ftn_base.specs.Exports.{PairOf}
use Rattle.ftn_base.specs.ModuleOrders.{IsGreedy, IsOrder}
use Rattle.ftn_base.specs.ModuleUses.{Uses, used_by}
use Rattle.module_graph.proofs.Chains.{in_take, place_in}

-- ---- an order has no more entries than there are modules

module _ (uses : List (List ℕ)) (list : List ℕ) (greedy : IsGreedy uses list) where
  apart : (i j d : ℕ) → i < j → j < length list → eqb (get_or list i d) (get_or list j d) ≡ false
  apart i j d before lt = elim (cases_Bool (eqb (get_or list i d) (get_or list j d))) [
    | inl same ↦ absurd (again (eqb-true (get_or list i d) (get_or list j d) same))
    | inr other ↦ other
  ]
    where
      again : get_or list i d ≡ get_or list j d → ⊥
      again same =
          let within : i < length list = omega arith in
          (greedy j lt).ready.absent (in_take list j i (get_or list j 0) before within (get_or_default list i 0 d within ∙ same ∙ get_or_default list j d 0 lt))

  pub entry_known : (k : ℕ) → k < length list → get_or list k 0 < length uses
  entry_known k lt = (greedy k lt).ready.known

  among_known : (q : ℕ) → list_any (eqb q) list ≡ true → q < length uses
  among_known q among = All-contains (λ n. n < length uses) list q (All-from_get_or (λ n. n < length uses) list 0 entry_known) (Contains-from_any eqb-true q list among)

  pub order_fits : length list ≤ length uses
  order_fits = length-le_from_distinct_below list (length uses) (IsDistinct-from_apart eqb list apart) among_known

  -- what an entry uses stands before it
  pub used_before : (k used : ℕ) → k < length list → Uses uses (get_or list k 0) used → (i : ℕ) × (i < k) × (i < length list) × (get_or list i 0 ≡ used)
  used_before k used lt use_of = place_in list k used (All-contains (Contains (take k list)) (used_by uses (get_or list k 0)) used (greedy k lt).ready.served use_of)

-- ---- rounds

module _ {E A : Type 0} (made : List (List (PairOf A)) → E → List (PairOf A)) (modules : List E) (after : ℕ → List (List (PairOf A)))
    (step : (rounds : ℕ) → after (suc rounds) ≡ map (made (after rounds)) modules) where
  round_at : (rounds number : ℕ) (e : E) → slice_get modules number ≡ Some e → exports_of (after (suc rounds)) number ≡ made (after rounds) e
  round_at rounds number e at =
      ap (λ xss. exports_of xss number) (step rounds) ∙ ap (λ o. unwrap_or o []) (slice_get-map (made (after rounds)) modules number ∙ ap (option_map (made (after rounds))) at)

  round_past : (rounds number : ℕ) → slice_get modules number ≡ None → exports_of (after (suc rounds)) number ≡ []
  round_past rounds number past =
      ap (λ xss. exports_of xss number) (step rounds) ∙ ap (λ o. unwrap_or o []) (slice_get-map (made (after rounds)) modules number ∙ ap (option_map (made (after rounds))) past)

  module _ (uses : List (List ℕ)) (list : List ℕ) (order : IsOrder uses list) (sized : length uses ≡ length modules)
      (of_used : (number : ℕ) (e : E) → slice_get modules number ≡ Some e → (xss yss : List (List (PairOf A)))
      → ((used : ℕ) → Uses uses number used → exports_of xss used ≡ exports_of yss used) → made xss e ≡ made yss e) where
    next_alike : (rounds number : ℕ) → ((used : ℕ) → Uses uses number used → exports_of (after rounds) used ≡ exports_of (after (suc rounds)) used)
        → exports_of (after (suc rounds)) number ≡ exports_of (after (suc (suc rounds))) number
    next_alike rounds number alike = by (slice_get modules number) refl
      where
        by : (found : Option E) → slice_get modules number ≡ found → exports_of (after (suc rounds)) number ≡ exports_of (after (suc (suc rounds))) number
        by None past = round_past rounds number past ∙ sym (round_past (suc rounds) number past)
        by (Some e) at = round_at rounds number e at ∙ of_used number e at (after rounds) (after (suc rounds)) alike ∙ sym (round_at (suc rounds) number e at)

    -- an entry stays the same once there were more rounds than entries before it
    settled : (bound k rounds : ℕ) → k < bound → k < length list → k ≤ rounds
        → exports_of (after (suc rounds)) (get_or list k 0) ≡ exports_of (after (suc (suc rounds))) (get_or list k 0)
    settled zero k rounds none lt le = absurd (omega arith)
    settled (suc bound) k rounds below lt le =
        next_alike rounds (get_or list k 0) (λ used use_of. before (settled bound) rounds used le (used_before uses list order.each k used lt use_of))
      where
        before : ((i r : ℕ) → i < bound → i < length list → i ≤ r → exports_of (after (suc r)) (get_or list i 0) ≡ exports_of (after (suc (suc r))) (get_or list i 0))
            → (r used : ℕ) → k ≤ r → (i : ℕ) × (i < k) × (i < length list) × (get_or list i 0 ≡ used) → exports_of (after r) used ≡ exports_of (after (suc r)) used
        before earlier zero used fits p = absurd (let lt_k : p.0 < k = p.1 in omega arith)
        before earlier (suc r) used enough p =
            let lt_k : p.0 < k = p.1 in
            let fits : p.0 ≤ r = omega arith in
            let less : p.0 < bound = omega arith in
            subst (λ n. exports_of (after (suc r)) n ≡ exports_of (after (suc (suc r))) n) p.3 (earlier p.0 r less p.2 fits)

    stays : (n number : ℕ) → length modules ≡ n → number < length modules → exports_of (after n) number ≡ exports_of (after (suc n)) number
    stays zero number size lt = absurd (omega arith)
    stays (suc n) number size lt =
        let place : Contains list number = order.all number (subst (λ k. number < k) (sym sized) lt) in
        let at : get_or list place.0 0 ≡ number = get_or_default list place.0 0 number place.1 ∙ place.2 in
        let within : place.0 < length list = place.1 in
        let fits : length list ≤ length uses = order_fits uses list order.each in
        let enough : place.0 ≤ n = omega arith in
        subst (λ m. exports_of (after (suc n)) m ≡ exports_of (after (suc (suc n))) m) at (settled (suc place.0) place.0 n (omega arith) within enough)

    -- with as many rounds as there are modules each is made of all
    pub fixed : (number : ℕ) (e : E) → slice_get modules number ≡ Some e → exports_of (after (length modules)) number ≡ made (after (length modules)) e
    fixed number e at = stays (length modules) number refl (slice_get_within modules number e at) ∙ round_at (length modules) number e at
