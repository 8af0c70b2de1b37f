-- Steps of the search for a way back.
use Rattle.std.proofs.Common.{◌≡◌, ◌≢◌, ℕ, suc, ◌-◌, ◌<◌, Bool, true, false, List, [], ◌∷◌, ◌++◌, length, get_or, take, set, replicate, All, AllPairs, Contains, ◌⊎◌, inl, inr, refl, sym, ◌∙◌, subst, subst₂, ap, arith, length-set, length-take}
use Rattle.std.proofs.lemmas.Bool.{cases_eq, cases_lt}
use Rattle.std.proofs.lemmas.List.{get_or-set_other, get_or-take, get_or_append_left, get_or_default, get_or_push, length_push, length-replicate}
use Rattle.std.proofs.lemmas.List.Elements.{All-cons, All-contains, All-nil, All-push, All-take, All-weaker, Contains-append_left, Contains-push}
use Rattle.std.proofs.lemmas.List.Quantifiers.{all_pairs_push}
use Rattle.ftn_base.specs.ModuleUses.{Uses, used_by}
use Rattle.ftn_base.specs.ModuleCycles.{IsChain, IsLeastCycle, IsOnCycle, IsRing}
use Rattle.module_graph.specs.steps.Marks.{IsMarked, IsSearch, IsUnmarked, IsWayBack}
use Rattle.module_graph.proofs.Chains.{in_take}
use Rattle.module_graph.proofs.Marking.{all_unmarked, mark_here, mark_more, mark_other, not_both}

-- ---- a path that ends where it began

chain_of : (uses : List (List ℕ)) (first : ℕ) (rest : List ℕ) (last : ℕ)
    → ((k : ℕ) → suc k < length (first ∷ rest) → Uses uses (get_or (first ∷ rest) k 0) (get_or (first ∷ rest) (suc k) 0)) → Uses uses (get_or (first ∷ rest) (length rest) 0) last → IsChain uses first rest last
chain_of uses first [] last joins end = end
chain_of uses first (next ∷ rest) last joins end =
    let more : 1 < suc (suc (length rest)) = omega arith in
    (joins 0 more, chain_of uses next rest last (λ k lt. joins (suc k) (let l : suc k < suc (length rest) = lt in omega arith)) end)

ring_of : (uses : List (List ℕ)) (path : List ℕ) → 0 < length path → ((k : ℕ) → suc k < length path → Uses uses (get_or path k 0) (get_or path (suc k) 0))
    → Uses uses (get_or path (length path - 1) 0) (get_or path 0 0) → IsRing uses path
ring_of uses [] begun joins end = absurd (omega arith)
ring_of uses (first ∷ rest) begun joins end =
    chain_of uses first rest first joins (subst (λ (k : ℕ). Uses uses (get_or (first ∷ rest) k 0) first) (let e : suc (length rest) - 1 ≡ length rest = omega arith in e) end)

abbrev IsDone : List (List ℕ) → List Bool → ℕ → Type 0
IsDone uses marks number = All (IsMarked marks) (used_by uses number)

-- ---- nothing is left of the path

led_to_mark : (uses : List (List ℕ)) (from : ℕ) (marks : List Bool) → ((number : ℕ) → (number ≡ from) ⊎ IsMarked marks number → IsDone uses marks number)
    → (between : List ℕ) (first last : ℕ) → (first ≡ from) ⊎ IsMarked marks first → IsChain uses first between last → IsMarked marks last
led_to_mark uses from marks done [] first last begun chain = All-contains (IsMarked marks) (used_by uses first) last (done first begun) chain
led_to_mark uses from marks done (next ∷ between) first last begun chain =
    led_to_mark uses from marks done between next last (inr (All-contains (IsMarked marks) (used_by uses first) next (done first begun) chain.0)) chain.1

none_in_empty : (path : List ℕ) (number : ℕ) → length path ≡ 0 → Contains path number → ⊥
none_in_empty path number e c = let lt : c.0 < length path = c.1 in omega arith

pub no_way_back : (uses : List (List ℕ)) (from : ℕ) (marks : List Bool) (path : List ℕ) → IsSearch uses from marks path → length path ≡ 0 → IsOnCycle uses from → ⊥
no_way_back uses from marks path search none cycle =
    not_both marks from (led_to_mark uses from marks (λ number reached. elim (search.shut number reached) [
      | inl c ↦ absurd (none_in_empty path number none c)
      | inr done ↦ done
    ]) cycle.0 from from (inl refl) cycle.1) search.open_source

pub begun : (uses : List (List ℕ)) (from : ℕ) (marks : List Bool) (path : List ℕ) → from < length uses → marks ≡ replicate (length uses) false → path ≡ from ∷ [] → IsSearch uses from marks path
begun uses from marks path lt m p =
    let size : length path ≡ 1 = ap length p in
    let one : All (λ number. number < length uses) (from ∷ []) = All-cons (λ number. number < length uses) from [] lt (All-nil (λ number. number < length uses)) in
    record {
      sized = ap length m ∙ length-replicate (length uses) false;
      open_source = all_unmarked marks (length uses) from m;
      source = λ some. ap (λ (l : List ℕ). get_or l 0 0) p;
      known = subst (λ (l : List ℕ). All (λ number. number < length uses) l) (sym p) one;
      joins = λ k more. absurd (omega arith);
      passed = λ k some more. absurd (omega arith);
      once = λ i j d less more. absurd (omega arith);
      shut = λ number reached. elim reached [
        | inl e ↦ inl (subst₂ (λ (l : List ℕ) (n : ℕ). Contains l n) (sym p) (sym e) (Contains-push [] from))
        | inr mark ↦ absurd (not_both marks number mark (all_unmarked marks (length uses) number m))
      ];
    }

module _ (uses : List (List ℕ)) (from : ℕ) (marks : List Bool) (path : List ℕ) (search : IsSearch uses from marks path) (some : 0 < length path) where
  abbrev top : ℕ
  top = get_or path (length path - 1) 0

  pub top_known : top < length uses
  top_known = let lt : length path - 1 < length path = omega arith in search.known (length path - 1) 0 lt

  pub found : Uses uses top from → IsWayBack uses from path
  found used = record {
    ring = ring_of uses path some search.joins (subst (λ (n : ℕ). Uses uses top n) (sym (search.source some)) used);
    once = search.once;
    source = search.source some;
  }

  -- ---- back

  module _ (done : IsDone uses marks top) where
    abbrev rest : List ℕ
    rest = take (length path - 1) path

    shorter : length rest ≡ length path - 1
    shorter = let size = length-take (length path - 1) path in omega arith

    left : (k : ℕ) → k < length rest → get_or rest k 0 ≡ get_or path k 0
    left k lt = let size = shorter in let before : k < length path - 1 = omega arith in get_or-take (length path - 1) path k 0 before

    left_joins : (k : ℕ) → suc k < length rest → Uses uses (get_or rest k 0) (get_or rest (suc k) 0)
    left_joins k lt =
        let size = shorter in
        let here : k < length rest = omega arith in
        let within : suc k < length path = omega arith in
        subst₂ (λ (a b : ℕ). Uses uses a b) (sym (left k here)) (sym (left (suc k) lt)) (search.joins k within)

    left_passed : (k : ℕ) → 0 < k → k < length rest → IsMarked marks (get_or rest k 0)
    left_passed k pos lt =
        let size = shorter in
        let within : k < length path = omega arith in
        subst (λ (n : ℕ). IsMarked marks n) (sym (left k lt)) (search.passed k pos within)

    left_once : AllPairs (λ earlier later. earlier ≢ later) rest
    left_once i j d less lt =
        let size = shorter in
        let i_before : i < length path - 1 = omega arith in
        let j_before : j < length path - 1 = omega arith in
        let within : j < length path = omega arith in
        subst₂ (λ (a b : ℕ). a ≢ b) (sym (get_or-take (length path - 1) path i d i_before)) (sym (get_or-take (length path - 1) path j d j_before)) (search.once i j d less within)

    left_source : 0 < length rest → get_or rest 0 0 ≡ from
    left_source more = left 0 more ∙ search.source some

    left_shut : (number : ℕ) → Contains path number → Contains rest number ⊎ IsDone uses marks number
    left_shut number c =
        let at : c.0 < length path = c.1 in
        let e : get_or path c.0 0 ≡ number = get_or_default path c.0 0 number at ∙ c.2 in
        elim (cases_lt c.0 (length path - 1)) [
          | inl before ↦ inl (in_take path (length path - 1) c.0 number before at e)
          | inr le ↦ let same : c.0 ≡ length path - 1 = omega arith in inr (subst (λ (n : ℕ). IsDone uses marks n) (ap (λ (k : ℕ). get_or path k 0) (sym same) ∙ e) done)
        ]

    pub back : IsSearch uses from marks rest
    back = record {
      sized = search.sized;
      open_source = search.open_source;
      source = left_source;
      known = All-take (λ number. number < length uses) (length path - 1) path search.known;
      joins = left_joins;
      passed = left_passed;
      once = left_once;
      shut = λ number reached. elim (search.shut number reached) [
        | inl c ↦ left_shut number c
        | inr d ↦ inr d
      ];
    }

  -- ---- on to a module without a mark

  module _ (next : ℕ) (used : Uses uses top next) (bare : IsUnmarked marks next) (other : next ≢ from) (known : next < length uses) where
    abbrev more : List ℕ
    more = path ++ next ∷ []

    abbrev marked : List Bool
    marked = set marks next true

    within : next < length marks
    within = subst (λ (n : ℕ). next < n) (sym search.sized) known

    old : (k : ℕ) → k < length path → get_or more k 0 ≡ get_or path k 0
    old k lt = get_or_append_left path (next ∷ []) 0 k lt

    more_joins : (k : ℕ) → suc k < length more → Uses uses (get_or more k 0) (get_or more (suc k) 0)
    more_joins k lt =
        let size = length_push path next in
        let here : k < length path = omega arith in
        elim (cases_lt (suc k) (length path)) [
          | inl before ↦ subst₂ (λ (a b : ℕ). Uses uses a b) (sym (old k here)) (sym (old (suc k) before)) (search.joins k before)
          | inr le ↦
              let last : length path ≡ suc k = omega arith in
              let prev : k ≡ length path - 1 = omega arith in
              subst₂ (λ (a b : ℕ). Uses uses a b) (sym (old k here ∙ ap (λ (i : ℕ). get_or path i 0) prev)) (sym (get_or_push path next 0 (suc k) last)) used
        ]

    more_passed : (k : ℕ) → 0 < k → k < length more → IsMarked marked (get_or more k 0)
    more_passed k pos lt =
        let size = length_push path next in
        elim (cases_lt k (length path)) [
          | inl before ↦ subst (λ (n : ℕ). IsMarked marked n) (sym (old k before)) (mark_more marks next (get_or path k 0) within (search.passed k pos before))
          | inr le ↦ let last : length path ≡ k = omega arith in subst (λ (n : ℕ). IsMarked marked n) (sym (get_or_push path next 0 k last)) (mark_here marks next within)
        ]

    not_there : (k : ℕ) → k < length path → get_or path k 0 ≢ next
    not_there k lt e = elim (cases_lt 0 k) [
      | inl pos ↦ not_both marks next (subst (λ (n : ℕ). IsMarked marks n) e (search.passed k pos lt)) bare
      | inr le ↦ let first : k ≡ 0 = omega arith in other (sym e ∙ ap (λ (i : ℕ). get_or path i 0) first ∙ search.source some)
    ]

    more_once : AllPairs (λ earlier later. earlier ≢ later) more
    more_once = all_pairs_push (λ (a b : ℕ). a ≢ b) path next search.once (λ k d lt e. not_there k lt (get_or_default path k 0 d lt ∙ e))

    more_shut : (number : ℕ) → (number ≡ from) ⊎ IsMarked marks number → Contains more number ⊎ IsDone uses marked number
    more_shut number reached = elim (search.shut number reached) [
      | inl c ↦ inl (Contains-append_left path (next ∷ []) number c)
      | inr done ↦ inr (All-weaker (IsMarked marks) (IsMarked marked) (λ n mark. mark_more marks next n within mark) (used_by uses number) done)
    ]

    marked_shut : (number : ℕ) → IsMarked marked number → Contains more number ⊎ IsDone uses marked number
    marked_shut number mark = elim (cases_eq number next) [
      | inl e ↦ inl (subst (λ (n : ℕ). Contains more n) (sym e) (Contains-push path next))
      | inr ne ↦ more_shut number (inr (mark_other marks next number ne mark))
    ]

    pub on : IsSearch uses from marked more
    on = record {
      sized = length-set marks next true ∙ search.sized;
      open_source = get_or-set_other marks next from true false (λ e. other (sym e)) ∙ search.open_source;
      source = λ begun. old 0 some ∙ search.source some;
      known = All-push (λ number. number < length uses) path next search.known known;
      joins = more_joins;
      passed = more_passed;
      once = more_once;
      shut = λ number reached. elim reached [
        | inl e ↦ more_shut number (inl e)
        | inr mark ↦ marked_shut number mark
      ];
    }

pub least_by_way_back : (uses : List (List ℕ)) (from : ℕ) (path : List ℕ) → IsWayBack uses from path → ((number : ℕ) → number < from → IsOnCycle uses number → ⊥) → IsLeastCycle uses path
least_by_way_back uses from path back none = record {
  ring = back.ring;
  once = back.once;
  least = λ lesser lt cycle. none lesser (subst (λ (n : ℕ). lesser < n) back.source lt) cycle;
}
