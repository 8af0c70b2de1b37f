-- Numbers that are given to modules, and what they tell of cycles.
use Rattle.std.proofs.Common.{◌≡◌, ◌≢◌, ℕ, ◌+◌, ◌<◌, ◌≤◌, cond, nat_eq, Bool, false, List, [], ◌∷◌, ◌++◌, length, get_or, set, take, replicate, All, Contains, ◌⊎◌, inl, inr, refl, sym, ◌∙◌, subst, ap, arith, length-set, sum_by}
use Rattle.std.proofs.lemmas.Bool.{cases_eq, cases_lt, ne_eqb}
use Rattle.std.proofs.lemmas.List.{get_or_default, get_or-replicate, get_or-set_other, get_or-set_same, get_or_past, length-replicate}
use Rattle.std.proofs.lemmas.List.Elements.{All-contains, All-more, All-weaker, Contains-append_left, Contains-push, Contains-push_cases}
use Rattle.std.proofs.lemmas.List.Sums.{sum_by-set}
use Rattle.ftn_base.specs.ModuleUses.{Uses, used_by}
use Rattle.ftn_base.specs.ModuleCycles.{IsChain, IsOnCycle}
use Rattle.module_graph.specs.steps.Groups.{HasNumber, IsGiving, NeverFalls, without_number}
use Rattle.module_graph.proofs.Marking.{front_cases, in_front, in_rest, none_in}

-- ---- a number more

module _ (uses : List (List ℕ)) (number : ℕ) (numbers list : List ℕ) (giving : IsGiving uses number numbers list)
    (given_to : ℕ) (known : given_to < length uses) (bare : get_or numbers given_to 0 ≡ 0) where
  abbrev new : List ℕ
  new = set numbers given_to number

  here : get_or new given_to 0 ≡ number
  here = let within : given_to < length numbers = subst (λ (n : ℕ). given_to < n) (sym giving.sized) known in get_or-set_same numbers given_to number 0 within

  other : (user : ℕ) → user ≢ given_to → get_or new user 0 ≡ get_or numbers user 0
  other user ne = get_or-set_other numbers given_to user number 0 ne

  -- what had a number keeps it
  apart : (user : ℕ) → HasNumber numbers user → user ≢ given_to
  apart user has e = let none : get_or numbers user 0 ≡ 0 = ap (λ (n : ℕ). get_or numbers n 0) e ∙ bare in omega arith

  still : (user : ℕ) → HasNumber numbers user → HasNumber new user
  still user has = subst (λ (n : ℕ). 0 < n) (sym (other user (apart user has))) has

  before : (user : ℕ) → user ≢ given_to → HasNumber new user → HasNumber numbers user
  before user ne has = subst (λ (n : ℕ). 0 < n) (other user ne) has

  least : (user : ℕ) → HasNumber new user → number ≤ get_or new user 0
  least user has = elim (cases_eq user given_to) [
    | inl e ↦ let same : get_or new user 0 ≡ number = ap (λ (n : ℕ). get_or new n 0) e ∙ here in omega arith
    | inr ne ↦ subst (λ (n : ℕ). number ≤ n) (sym (other user ne)) (giving.least user (before user ne has))
  ]

  -- of the modules that had a number, the new one is used by those of the list alone
  used_here : (user : ℕ) → HasNumber numbers user → Uses uses user given_to → get_or numbers user 0 ≡ number
  used_here user has used = elim (giving.done user has) [
    | inl c ↦ giving.here user c
    | inr all ↦ absurd (let had : HasNumber numbers given_to = All-contains (HasNumber numbers) (used_by uses user) given_to all used in apart given_to had refl)
  ]

  from_other : (user used : ℕ) → user ≢ given_to → Uses uses user used → HasNumber numbers user → HasNumber new used → get_or numbers user 0 ≤ get_or new used 0
  from_other user used ne uses_it has has_too = elim (cases_eq used given_to) [
    | inl e ↦
        let same : get_or new used 0 ≡ number = ap (λ (n : ℕ). get_or new n 0) e ∙ here in
        let mine : get_or numbers user 0 ≡ number = used_here user has (subst (λ (n : ℕ). Uses uses user n) e uses_it) in
        omega arith
    | inr ne_too ↦ subst (λ (n : ℕ). get_or numbers user 0 ≤ n) (sym (other used ne_too)) (giving.never_falls user used uses_it has (before used ne_too has_too))
  ]

  never_falls : (user used : ℕ) → Uses uses user used → HasNumber new user → HasNumber new used → get_or new user 0 ≤ get_or new used 0
  never_falls user used uses_it has has_too = elim (cases_eq user given_to) [
    | inl e ↦
        let same : get_or new user 0 ≡ number = ap (λ (n : ℕ). get_or new n 0) e ∙ here in
        let most : number ≤ get_or new used 0 = least used has_too in
        omega arith
    | inr ne ↦ subst (λ (n : ℕ). n ≤ get_or new used 0) (sym (other user ne)) (from_other user used ne uses_it (before user ne has) has_too)
  ]

  module _ (new_list : List ℕ) (kept : (user : ℕ) → Contains list user → Contains new_list user) (there : Contains new_list given_to)
      (only : (user : ℕ) → Contains new_list user → Contains list user ⊎ (user ≡ given_to)) where
    known_then : (user : ℕ) → Contains new_list user → user < length uses
    known_then user c = elim (only user c) [
      | inl old ↦ giving.known user old
      | inr e ↦ subst (λ (n : ℕ). n < length uses) (sym e) known
    ]

    has_listed : (user : ℕ) → Contains list user → HasNumber numbers user
    has_listed user c = let e : get_or numbers user 0 ≡ number = giving.here user c in let some : 0 < number = giving.positive in omega arith

    here_then : (user : ℕ) → Contains new_list user → get_or new user 0 ≡ number
    here_then user c = elim (only user c) [
      | inl old ↦ other user (apart user (has_listed user old)) ∙ giving.here user old
      | inr e ↦ ap (λ (n : ℕ). get_or new n 0) e ∙ here
    ]

    done_other : (user : ℕ) → HasNumber numbers user → Contains new_list user ⊎ All (HasNumber new) (used_by uses user)
    done_other user has = elim (giving.done user has) [
      | inl c ↦ inl (kept user c)
      | inr all ↦ inr (All-weaker (HasNumber numbers) (HasNumber new) still (used_by uses user) all)
    ]

    done_then : (user : ℕ) → HasNumber new user → Contains new_list user ⊎ All (HasNumber new) (used_by uses user)
    done_then user has = elim (cases_eq user given_to) [
      | inl e ↦ inl (subst (λ (n : ℕ). Contains new_list n) (sym e) there)
      | inr ne ↦ done_other user (before user ne has)
    ]

    pub given : IsGiving uses number new new_list
    given = record {
      sized = length-set numbers given_to number ∙ giving.sized;
      positive = giving.positive;
      known = known_then;
      here = here_then;
      least = least;
      done = done_then;
      never_falls = never_falls;
    }

  pub given_alone : list ≡ [] → IsGiving uses number new (given_to ∷ [])
  given_alone none = given (given_to ∷ []) (λ user c. absurd (none_in user (subst (λ (l : List ℕ). Contains l user) none c))) (in_front given_to [])
      (λ user c. elim (front_cases given_to [] user c) [
        | inl e ↦ inr (sym e)
        | inr c ↦ absurd (none_in user c)
      ])

pub given_more : (uses : List (List ℕ)) (number : ℕ) (numbers stack : List ℕ) (user : ℕ) → IsGiving uses number numbers (user ∷ stack)
    → (used : ℕ) → used < length uses → get_or numbers used 0 ≡ 0 → (new_stack : List ℕ) → new_stack ≡ stack ++ used ∷ [] → IsGiving uses number (set numbers used number) (user ∷ new_stack)
given_more uses number numbers stack user giving used known bare new_stack e =
    subst (λ (l : List ℕ). IsGiving uses number (set numbers used number) (user ∷ l)) (sym e)
    (given uses number numbers (user ∷ stack) giving used known bare (user ∷ (stack ++ used ∷ []))
    (λ n c. Contains-append_left (user ∷ stack) (used ∷ []) n c) (Contains-push (user ∷ stack) used)
    (λ n c. elim (Contains-push_cases (user ∷ stack) used n c) [
      | inl old ↦ inl old
      | inr e ↦ inr (sym e)
    ]))

pub done_more : (uses : List (List ℕ)) (number : ℕ) (numbers giving_list : List ℕ) → IsGiving uses number numbers giving_list → (list : List ℕ) (i : ℕ) → i < length list → get_or list i 0 < length uses
    → get_or numbers (get_or list i 0) 0 ≡ 0 → All (HasNumber numbers) (take i list) → All (HasNumber (set numbers (get_or list i 0) number)) (take (i + 1) list)
done_more uses number numbers giving_list giving list i lt known bare all =
    let used : ℕ = get_or list i 0 in
    let has : HasNumber (set numbers used number) used = subst (λ (n : ℕ). 0 < n) (sym (here uses number numbers giving_list giving used known bare)) giving.positive in
    All-more (HasNumber (set numbers used number)) list i 0 lt
    (All-weaker (HasNumber numbers) (HasNumber (set numbers used number)) (still uses number numbers giving_list giving used known bare) (take i list) all) has

-- ---- a list less

pub listed_else : (uses : List (List ℕ)) (number : ℕ) (numbers list new_list : List ℕ) → IsGiving uses number numbers list
    → ((user : ℕ) → Contains new_list user → Contains list user)
    → ((user : ℕ) → Contains list user → Contains new_list user ⊎ All (HasNumber numbers) (used_by uses user)) → IsGiving uses number numbers new_list
listed_else uses number numbers list new_list giving among rest = record {
  sized = giving.sized;
  positive = giving.positive;
  known = λ user c. giving.known user (among user c);
  here = λ user c. giving.here user (among user c);
  least = giving.least;
  done = λ user has. elim (giving.done user has) [
    | inl c ↦ rest user c
    | inr all ↦ inr all
  ];
  never_falls = giving.never_falls;
}

-- all that the first uses have a number
pub left : (uses : List (List ℕ)) (number : ℕ) (numbers stack : List ℕ) (user : ℕ) → IsGiving uses number numbers (user ∷ stack) → All (HasNumber numbers) (used_by uses user) → IsGiving uses number numbers stack
left uses number numbers stack user giving all = listed_else uses number numbers (user ∷ stack) stack giving (λ n c. in_rest user stack n c) (λ n c. elim (front_cases user stack n c) [
  | inl e ↦ inr (subst (λ (n : ℕ). All (HasNumber numbers) (used_by uses n)) e all)
  | inr c ↦ inl c
])

-- the last is taken to the front
pub taken : (uses : List (List ℕ)) (number : ℕ) (numbers stack rest : List ℕ) (user : ℕ) → IsGiving uses number numbers stack → stack ≡ rest ++ user ∷ [] → IsGiving uses number numbers (user ∷ rest)
taken uses number numbers stack rest user giving e =
    listed_else uses number numbers stack (user ∷ rest) giving
    (λ n c. subst (λ (l : List ℕ). Contains l n) (sym e) (elim (front_cases user rest n c) [
      | inl here ↦ subst (λ (m : ℕ). Contains (rest ++ user ∷ []) m) here (Contains-push rest user)
      | inr c ↦ Contains-append_left rest (user ∷ []) n c
    ]))
    (λ n c. inl (elim (Contains-push_cases rest user n (subst (λ (l : List ℕ). Contains l n) e c)) [
      | inl c ↦ in_rest user rest n c
      | inr here ↦ subst (λ (m : ℕ). Contains (user ∷ rest) m) here (in_front user rest)
    ]))

-- ---- the first number, the next one, and the end

pub nothing_given : (uses : List (List ℕ)) (number count : ℕ) (numbers : List ℕ) → 0 < number → count ≡ length uses → numbers ≡ replicate count 0 → IsGiving uses number numbers []
nothing_given uses number count numbers some size e =
    let none : (user : ℕ) → HasNumber numbers user → ⊥ = λ user has.
    let zero : get_or numbers user 0 ≡ 0 = ap (λ (l : List ℕ). get_or l user 0) e ∙ elim (cases_lt user count) [
      | inl lt ↦ get_or-replicate count user 0 0 lt
      | inr le ↦ get_or_past (replicate count 0) user 0 (omega (arith, length-replicate {A = ℕ} count 0))
    ] in
    omega arith in
    record {
      sized = ap length e ∙ length-replicate count 0 ∙ size;
      positive = some;
      known = λ user c. absurd (none_in user c);
      here = λ user c. absurd (none_in user c);
      least = λ user has. absurd (none user has);
      done = λ user has. absurd (none user has);
      never_falls = λ user used uses_it has has_too. absurd (none user has);
    }

pub lower : (uses : List (List ℕ)) (number less : ℕ) (numbers : List ℕ) → IsGiving uses number numbers [] → 0 < less → less ≤ number → IsGiving uses less numbers []
lower uses number less numbers giving some le = record {
  sized = giving.sized;
  positive = some;
  known = λ user c. absurd (none_in user c);
  here = λ user c. absurd (none_in user c);
  least = λ user has. let above : number ≤ get_or numbers user 0 = giving.least user has in omega arith;
  done = giving.done;
  never_falls = giving.never_falls;
}

pub all_given : (uses : List (List ℕ)) (number : ℕ) (numbers : List ℕ) → IsGiving uses number numbers [] → NeverFalls uses numbers
all_given uses number numbers giving user used uses_it = elim (cases_lt 0 (get_or numbers user 0)) [
  | inl has ↦ elim (giving.done user has) [
    | inl c ↦ absurd (none_in user c)
    | inr all ↦ giving.never_falls user used uses_it has (All-contains (HasNumber numbers) (used_by uses user) used all uses_it)
  ]
  | inr le ↦ omega arith
]

-- ---- those without a number

is_zero : (n : ℕ) → 0 < n → nat_eq n 0 ≡ false
is_zero n some = ne_eqb n 0 (λ e. omega arith)

pub one_less : (numbers : List ℕ) (given number : ℕ) → given < length numbers → get_or numbers given 0 ≡ 0 → 0 < number → without_number (set numbers given number) + 1 ≡ without_number numbers
one_less numbers given number lt bare some =
    let f : ℕ → ℕ = λ (n : ℕ). cond (nat_eq n 0) 1 0 in
    let e : sum_by f (set numbers given number) + f (get_or numbers given 0) ≡ sum_by f numbers + f number = sum_by-set f numbers given number 0 lt in
    let one : f (get_or numbers given 0) ≡ 1 = ap f bare in
    let none : f number ≡ 0 = ap (λ (b : Bool). cond b 1 0) (is_zero number some) in
    omega arith

-- ---- cycles lie within one number

along : (uses : List (List ℕ)) (numbers : List ℕ) → NeverFalls uses numbers → (between : List ℕ) (first last : ℕ) → IsChain uses first between last → get_or numbers first 0 ≤ get_or numbers last 0
along uses numbers never [] first last chain = never first last chain
along uses numbers never (next ∷ between) first last chain =
    let one : get_or numbers first 0 ≤ get_or numbers next 0 = never first next chain.0 in
    let rest : get_or numbers next 0 ≤ get_or numbers last 0 = along uses numbers never between next last chain.1 in
    omega arith

abbrev NoneAlike : List (List ℕ) → List ℕ → ℕ → Type 0
NoneAlike uses numbers user = All (λ used. get_or numbers used 0 ≢ get_or numbers user 0) (used_by uses user)

pub none_alike : (uses : List (List ℕ)) (numbers same_numbers list : List ℕ) (user number : ℕ) → list ≡ used_by uses user → same_numbers ≡ numbers → number ≡ get_or numbers user number → user < length numbers
    → All (λ used. get_or same_numbers used 0 ≢ number) list → NoneAlike uses numbers user
none_alike uses numbers same_numbers list user number l n e lt all =
    let mine : number ≡ get_or numbers user 0 = e ∙ get_or_default numbers user number 0 lt in
    subst (λ (k : ℕ). All (λ used. get_or numbers used 0 ≢ k) (used_by uses user)) mine
    (subst (λ (m : List ℕ). All (λ used. get_or m used 0 ≢ number) (used_by uses user)) n (subst (λ (m : List ℕ). All (λ used. get_or same_numbers used 0 ≢ number) m) l all))

alike : (uses : List (List ℕ)) (numbers : List ℕ) → NeverFalls uses numbers → (between : List ℕ) (user : ℕ) → IsChain uses user between user → NoneAlike uses numbers user → ⊥
alike uses numbers never [] user chain none = All-contains (λ used. get_or numbers used 0 ≢ get_or numbers user 0) (used_by uses user) user none chain refl
alike uses numbers never (next ∷ between) user chain none =
    let up : get_or numbers user 0 ≤ get_or numbers next 0 = never user next chain.0 in
    let back : get_or numbers next 0 ≤ get_or numbers user 0 = along uses numbers never between next user chain.1 in
    let same : get_or numbers next 0 ≡ get_or numbers user 0 = omega arith in
    All-contains (λ used. get_or numbers used 0 ≢ get_or numbers user 0) (used_by uses user) next none chain.0 same

pub on_none : (uses : List (List ℕ)) (numbers : List ℕ) (user : ℕ) → NeverFalls uses numbers → NoneAlike uses numbers user → IsOnCycle uses user → ⊥
on_none uses numbers user never none cycle = alike uses numbers never cycle.0 user cycle.1 none
