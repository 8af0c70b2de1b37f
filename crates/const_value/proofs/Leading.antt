-- Uses lead from a number to another by some chain where they do by one of as many uses as there are numbers.
use Rattle.std.proofs.Common.{◌≡◌, ℕ, zero, suc, ◌+◌, ◌<◌, ◌≤◌, nat_eq, Bool, true, false, cond, List, [], ◌∷◌, length, get_or, ◌⊎◌, inl, inr, refl, sym, ap, subst, arith}
use Rattle.std.specs.List.{list_any}
use Rattle.std.proofs.lemmas.Bool.{cases_lt, eqb-true, or_cases, or_left, or_right}
use Rattle.std.proofs.lemmas.Bool.Decides.{nat_tests}
use Rattle.std.proofs.lemmas.List.{get_or_past}
use Rattle.std.proofs.lemmas.List.Folds.{Any-from_list_any, list_any_at}
use Rattle.ftn_base.specs.ModuleUses.{Uses, used_by}
use Rattle.ftn_tree.specs.NameFaults.{leads, leads_to}
use Rattle.const_value.specs.steps.Components.{Leads}

any_more : (p q : ℕ → Bool) → ((x : ℕ) → p x ≡ true → q x ≡ true) → (xs : List ℕ) → list_any p xs ≡ true → list_any q xs ≡ true
any_more p q more [] e = e
any_more p q more (x ∷ xs) e = elim (or_cases (p x) (list_any p xs) e) [
  | inl here ↦ or_left (q x) (list_any q xs) (more x here)
  | inr rest ↦ or_right (q x) (list_any q xs) (any_more p q more xs rest)
]

pub same_number : (x : ℕ) → nat_eq x x ≡ true
same_number x = grind (arith, nat_tests)

-- ---- how many numbers below a bound pass

pub passing : (ℕ → Bool) → ℕ → ℕ
passing p zero = 0
passing p (suc k) = cond (p k) 1 0 + passing p k

passing_one : (p : ℕ → Bool) (k : ℕ) (b : Bool) → p k ≡ b → passing p (suc k) ≡ cond b 1 0 + passing p k
unfolding passing
passing_one p k b e = ap (λ c. cond c 1 0 + passing p k) e

pub passing_fits : (p : ℕ → Bool) (k : ℕ) → passing p k ≤ k
unfolding passing
passing_fits p zero = omega arith
passing_fits p (suc k) = by (p k) (passing_fits p k)
  where
    by : (b : Bool) → passing p k ≤ k → cond b 1 0 + passing p k ≤ suc k
    by true le = omega arith
    by false le = omega arith

pub passing_some : (p : ℕ → Bool) (x : ℕ) → p x ≡ true → (k : ℕ) → x < k → 1 ≤ passing p k
passing_some p x e zero lt = absurd (omega arith)
passing_some p x e (suc k) lt = by (cases_lt x k) (passing_some p x e k)
  where
    by : (x < k) ⊎ (k ≤ x) → (x < k → 1 ≤ passing p k) → 1 ≤ passing p (suc k)
    by (inl before) rest = let some : 1 ≤ passing p k = rest before in more (p k) refl some
      where
        more : (b : Bool) → p k ≡ b → 1 ≤ passing p k → 1 ≤ passing p (suc k)
        more true f le = let e2 : passing p (suc k) ≡ 1 + passing p k = passing_one p k true f in omega arith
        more false f le = let e2 : passing p (suc k) ≡ 0 + passing p k = passing_one p k false f in omega arith
    by (inr after) rest =
        let same : x ≡ k = omega arith in
        let e2 : passing p (suc k) ≡ 1 + passing p k = passing_one p k true (subst (λ y. p y ≡ true) same e) in
        omega arith

module _ (p q : ℕ → Bool) (more : (x : ℕ) → p x ≡ true → q x ≡ true) where
  pub passing_more : (k : ℕ) → passing p k ≤ passing q k
  unfolding passing
  passing_more zero = omega arith
  passing_more (suc k) = by (p k) (q k) refl refl (passing_more k)
    where
      by : (a b : Bool) → p k ≡ a → q k ≡ b → passing p k ≤ passing q k → cond (p k) 1 0 + passing p k ≤ cond (q k) 1 0 + passing q k
      by a true d e le =
          let first : passing p (suc k) ≡ cond a 1 0 + passing p k = passing_one p k a d in
          let second : passing q (suc k) ≡ 1 + passing q k = passing_one q k true e in
          let one : cond a 1 0 ≤ 1 = few a in
          omega arith
        where
          few : (c : Bool) → cond c 1 0 ≤ 1
          few true = omega arith
          few false = omega arith
      by false false d e le =
          let first : passing p (suc k) ≡ 0 + passing p k = passing_one p k false d in
          let second : passing q (suc k) ≡ 0 + passing q k = passing_one q k false e in
          omega arith
      by true false d e le = absurd (let no_more : q k ≡ true = more k d in cc)

  -- they pass alike below the bound, or more of them pass
  pub alike_or_more : (k : ℕ) → ((x : ℕ) → x < k → q x ≡ true → p x ≡ true) ⊎ (suc (passing p k) ≤ passing q k)
  alike_or_more zero = inl (λ x lt e. absurd (omega arith))
  alike_or_more (suc k) = by (p k) (q k) refl refl (alike_or_more k)
    where
      by : (a b : Bool) → p k ≡ a → q k ≡ b → ((x : ℕ) → x < k → q x ≡ true → p x ≡ true) ⊎ (suc (passing p k) ≤ passing q k)
          → ((x : ℕ) → x < suc k → q x ≡ true → p x ≡ true) ⊎ (suc (passing p (suc k)) ≤ passing q (suc k))
      by false true d e rest =
          let first : passing p (suc k) ≡ 0 + passing p k = passing_one p k false d in
          let second : passing q (suc k) ≡ 1 + passing q k = passing_one q k true e in
          let le : passing p k ≤ passing q k = passing_more k in
          inr (omega arith)
      by true false d e rest = absurd (let no_more : q k ≡ true = more k d in cc)
      by true true d e (inr le) =
          let first : passing p (suc k) ≡ 1 + passing p k = passing_one p k true d in
          let second : passing q (suc k) ≡ 1 + passing q k = passing_one q k true e in
          inr (omega arith)
      by false false d e (inr le) =
          let first : passing p (suc k) ≡ 0 + passing p k = passing_one p k false d in
          let second : passing q (suc k) ≡ 0 + passing q k = passing_one q k false e in
          inr (omega arith)
      by true true d e (inl alike) = inl (λ x lt passes. below x (cases_lt x k) lt passes)
        where
          below : (x : ℕ) → (x < k) ⊎ (k ≤ x) → x < suc k → q x ≡ true → p x ≡ true
          below x (inl before) lt passes = alike x before passes
          below x (inr after) lt passes = let same : k ≡ x = omega arith in subst (λ y. p y ≡ true) same d
      by false false d e (inl alike) = inl (λ x lt passes. below x (cases_lt x k) lt passes)
        where
          below : (x : ℕ) → (x < k) ⊎ (k ≤ x) → x < suc k → q x ≡ true → p x ≡ true
          below x (inl before) lt passes = alike x before passes
          below x (inr after) lt passes = absurd (let same : x ≡ k = omega arith in let none : q x ≡ false = subst (λ y. q y ≡ false) (sym same) e in cc)

-- ---- chains and counts of uses

module _ (uses : List (List ℕ)) where
  pub leads_same : (count first last : ℕ) → nat_eq first last ≡ true → leads uses count first last ≡ true
  leads_same zero first last e = e
  leads_same (suc count) first last e = or_left (nat_eq first last) (list_any (λ next. leads uses count next last) (used_by uses first)) e

  pub leads_one_more : (count first next last : ℕ) → Uses uses first next → leads uses count next last ≡ true → leads uses (suc count) first last ≡ true
  leads_one_more count first next last use_of e =
      let here : leads uses count (get_or (used_by uses first) use_of.0 next) last ≡ true = subst (λ n. leads uses count n last ≡ true) (sym use_of.2) e in
      or_right (nat_eq first last) (list_any (λ n. leads uses count n last) (used_by uses first))
      (list_any_at (λ n. leads uses count n last) (used_by uses first) use_of.0 next use_of.1 here)

  module _ (last : ℕ) where
    leads_grows : (count first : ℕ) → leads uses count first last ≡ true → leads uses (suc count) first last ≡ true
    leads_grows zero first e = or_left (nat_eq first last) (list_any (λ next. leads uses 0 next last) (used_by uses first)) e
    leads_grows (suc count) first e = by (or_cases (nat_eq first last) (list_any (λ next. leads uses count next last) (used_by uses first)) e) (leads_grows count)
      where
        by : (nat_eq first last ≡ true) ⊎ (list_any (λ next. leads uses count next last) (used_by uses first) ≡ true)
            → ((f : ℕ) → leads uses count f last ≡ true → leads uses (suc count) f last ≡ true) → leads uses (suc (suc count)) first last ≡ true
        by (inl same) again = leads_same (suc (suc count)) first last same
        by (inr some) again =
            or_right (nat_eq first last) (list_any (λ next. leads uses (suc count) next last) (used_by uses first))
            (any_more (λ next. leads uses count next last) (λ next. leads uses (suc count) next last) again (used_by uses first) some)

    abbrev Stable : ℕ → Type 0
    Stable count = (first : ℕ) → leads uses (suc count) first last ≡ true → leads uses count first last ≡ true

    stable_next : (count : ℕ) → Stable count → Stable (suc count)
    stable_next count stable first e = by (or_cases (nat_eq first last) (list_any (λ next. leads uses (suc count) next last) (used_by uses first)) e)
      where
        by : (nat_eq first last ≡ true) ⊎ (list_any (λ next. leads uses (suc count) next last) (used_by uses first) ≡ true) → leads uses (suc count) first last ≡ true
        by (inl same) = leads_same (suc count) first last same
        by (inr some) =
            or_right (nat_eq first last) (list_any (λ next. leads uses count next last) (used_by uses first))
            (any_more (λ next. leads uses (suc count) next last) (λ next. leads uses count next last) stable (used_by uses first) some)

    stable_below : (count : ℕ) → ((first : ℕ) → first < length uses → leads uses (suc count) first last ≡ true → leads uses count first last ≡ true) → Stable count
    stable_below count below first e = by (cases_lt first (length uses))
      where
        none : length uses ≤ first → list_any (λ next. leads uses count next last) (used_by uses first) ≡ false
        none past = ap (list_any (λ next. leads uses count next last)) (get_or_past uses first [] past)

        by : (first < length uses) ⊎ (length uses ≤ first) → leads uses count first last ≡ true
        by (inl lt) = below first lt e
        by (inr past) = elim (or_cases (nat_eq first last) (list_any (λ next. leads uses count next last) (used_by uses first)) e) [
          | inl same ↦ leads_same count first last same
          | inr some ↦ absurd (let no_use : list_any (λ next. leads uses count next last) (used_by uses first) ≡ false = none past in cc)
        ]

    stable_or_more : last < length uses → (count : ℕ) → Stable count ⊎ (suc count ≤ passing (λ first. leads uses count first last) (length uses))
    stable_or_more known zero = inr (passing_some (λ first. leads uses 0 first last) last (same_number last) (length uses) known)
    stable_or_more known (suc count) =
        by (stable_or_more known count)
        (alike_or_more (λ first. leads uses count first last) (λ first. leads uses (suc count) first last) (leads_grows count) (length uses))
      where
        by : Stable count ⊎ (suc count ≤ passing (λ first. leads uses count first last) (length uses))
            → ((first : ℕ) → first < length uses → leads uses (suc count) first last ≡ true → leads uses count first last ≡ true)
            ⊎ (suc (passing (λ first. leads uses count first last) (length uses)) ≤ passing (λ first. leads uses (suc count) first last) (length uses))
            → Stable (suc count) ⊎ (suc (suc count) ≤ passing (λ first. leads uses (suc count) first last) (length uses))
        by (inl stable) next = inl (stable_next count stable)
        by (inr many) (inl alike) = inl (stable_next count (stable_below count alike))
        by (inr many) (inr more) = inr (omega arith)

    stable : last < length uses → Stable (length uses)
    stable known = elim (stable_or_more known (length uses)) [
      | inl is ↦ is
      | inr many ↦ absurd (let fits : passing (λ first. leads uses (length uses) first last) (length uses) ≤ length uses = passing_fits (λ first. leads uses (length uses) first last) (length uses) in omega arith)
    ]

    stays_stable : (count more : ℕ) → count ≤ more → Stable count → Stable more
    stays_stable count zero le is = let same : count ≡ 0 = omega arith in subst (λ n. Stable n) same is
    stays_stable count (suc more) le is = by (cases_lt more count) (stays_stable count more)
      where
        by : (more < count) ⊎ (count ≤ more) → (count ≤ more → Stable count → Stable more) → Stable (suc more)
        by (inl over) again = let same : count ≡ suc more = omega arith in subst (λ n. Stable n) same is
        by (inr below) again = stable_next more (again below is)

    leads_up : (count more first : ℕ) → count ≤ more → leads uses count first last ≡ true → leads uses more first last ≡ true
    leads_up count zero first le e = let same : count ≡ 0 = omega arith in subst (λ n. leads uses n first last ≡ true) same e
    leads_up count (suc more) first le e = by (cases_lt more count) (leads_up count more first)
      where
        by : (more < count) ⊎ (count ≤ more) → (count ≤ more → leads uses count first last ≡ true → leads uses more first last ≡ true) → leads uses (suc more) first last ≡ true
        by (inl over) again = let same : count ≡ suc more = omega arith in subst (λ n. leads uses n first last ≡ true) same e
        by (inr below) again = leads_grows more first (again below e)

    leads_down : (count more first : ℕ) → Stable count → count ≤ more → leads uses more first last ≡ true → leads uses count first last ≡ true
    leads_down count zero first is le e = let same : 0 ≡ count = omega arith in subst (λ n. leads uses n first last ≡ true) same e
    leads_down count (suc more) first is le e = by (cases_lt more count) (leads_down count more first is)
      where
        by : (more < count) ⊎ (count ≤ more) → (count ≤ more → leads uses more first last ≡ true → leads uses count first last ≡ true) → leads uses count first last ≡ true
        by (inl over) again = let same : suc more ≡ count = omega arith in subst (λ n. leads uses n first last ≡ true) same e
        by (inr below) again = again below (stays_stable count more below is first e)

    -- by any number of uses
    pub leads_by_any : last < length uses → (count first : ℕ) → leads uses count first last ≡ true → leads_to uses first last ≡ true
    leads_by_any known count first e = elim (cases_lt (length uses) count) [
      | inl over ↦ leads_down (length uses) count first (stable known) (omega arith) e
      | inr within ↦ leads_up count (length uses) first within e
    ]

-- ---- by some number of uses

module _ (uses : List (List ℕ)) where
  leads_then : (more middle last : ℕ) → leads uses more middle last ≡ true → (count first : ℕ) → leads uses count first middle ≡ true → (all : ℕ) × (leads uses all first last ≡ true)
  leads_then more middle last rest zero first e = (more, subst (λ n. leads uses more n last ≡ true) (sym (eqb-true first middle e)) rest)
  leads_then more middle last rest (suc count) first e =
      by (or_cases (nat_eq first middle) (list_any (λ next. leads uses count next middle) (used_by uses first)) e) (leads_then more middle last rest count)
    where
      by : (nat_eq first middle ≡ true) ⊎ (list_any (λ next. leads uses count next middle) (used_by uses first) ≡ true)
          → ((next : ℕ) → leads uses count next middle ≡ true → (all : ℕ) × (leads uses all next last ≡ true)) → (all : ℕ) × (leads uses all first last ≡ true)
      by (inl same) again = (more, subst (λ n. leads uses more n last ≡ true) (sym (eqb-true first middle same)) rest)
      by (inr some) again =
          let one = Any-from_list_any (λ next. leads uses count next middle) (used_by uses first) some in
          let further = again one.1 one.4 in
          (suc further.0, leads_one_more uses further.0 first one.1 last (one.0, one.2, one.3) further.1)

  pub leads_itself : (number : ℕ) → Leads uses number number
  leads_itself number = record { count = 0; is = same_number number }

  pub leads_on : (first middle last : ℕ) → Leads uses first middle → Leads uses middle last → Leads uses first last
  leads_on first middle last one other =
      let all = leads_then other.count middle last other.is one.count first one.is in
      record { count = all.0; is = all.1 }

  pub leads_by_use : (first last : ℕ) → Uses uses first last → Leads uses first last
  leads_by_use first last one = record { count = 1; is = leads_one_more uses 0 first last last one (same_number last) }

  pub leads_all : (first last : ℕ) → last < length uses → Leads uses first last → leads_to uses first last ≡ true
  leads_all first last known one = leads_by_any uses last known one.count first one.is

  pub leads_from : (first last : ℕ) → leads_to uses first last ≡ true → Leads uses first last
  leads_from first last e = record { count = length uses; is = e }

  -- what holds of the last and of each number whose use_of has it holds of the first
  pub leads_back : (P : ℕ → Type 0) (last : ℕ) → P last → ((user used : ℕ) → Uses uses user used → Leads uses used last → P used → P user) → (first : ℕ) → Leads uses first last → P first
  leads_back P last at step first one = walk one.count first one.is where
    walk : (count first : ℕ) → leads uses count first last ≡ true → P first
    walk zero first e = subst (λ n. P n) (sym (eqb-true first last e)) at
    walk (suc count) first e = by (or_cases (nat_eq first last) (list_any (λ next. leads uses count next last) (used_by uses first)) e) (walk count) where
      by : (nat_eq first last ≡ true) ⊎ (list_any (λ next. leads uses count next last) (used_by uses first) ≡ true) → ((next : ℕ) → leads uses count next last ≡ true → P next) → P first
      by (inl same) again = subst (λ n. P n) (sym (eqb-true first last same)) at
      by (inr some) again =
          let use_of = Any-from_list_any (λ next. leads uses count next last) (used_by uses first) some in
          step first use_of.1 (use_of.0, use_of.2, use_of.3) (record { count = count; is = use_of.4 }) (again use_of.1 use_of.4)
