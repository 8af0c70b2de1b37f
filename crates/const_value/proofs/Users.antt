-- Those that use each number, one number after the other.
use Rattle.std.proofs.Common.{◌≡◌, ◌≢◌, ℕ, ◌+◌, ◌<◌, ◌≤◌, List, [], ◌∷◌, ◌++◌, Vec, length, get_or, set, take, take_all, All, Contains, ◌⊎◌, inl, inr, refl, sym, subst, ap, ◌∙◌, arith, length-set}
use Rattle.std.proofs.lemmas.Bool.{cases_eq, cases_lt}
use Rattle.std.proofs.lemmas.List.{get_or-map, get_or_default, get_or_past, get_or-set_other, get_or-set_same, length-map, take_more}
use Rattle.std.proofs.lemmas.List.Elements.{All-contains, All-map, All-more, All-nil, All-weaker, Contains-append_left, Contains-get_or, Contains-push, Contains-push_cases}
use Rattle.ftn_base.specs.ModuleUses.{AreKnown, Uses, used_by}
use Rattle.const_value.specs.steps.Labelling.{AreAdded, AreUsers}
use Rattle.const_value.specs.steps.Lists.{lists_of}
use Rattle.const_value.proofs.Searching.{none_in}

-- ---- lists as they lie in memory, and as contracts see them

pub lists_length : {A : Type 0} (lists : List (Vec ℕ A)) → length (lists_of lists) ≡ length lists
lists_length lists = length-map lists (λ list. list.items)

pub list_at : {A : Type 0} (lists : List (Vec ℕ A)) (i : ℕ) (list : Vec ℕ A) → i < length lists → list ≡ get_or lists i list → list.items ≡ used_by (lists_of lists) i
list_at lists i list lt at = ap (λ v. v.items) at ∙ sym (get_or-map (λ v. v.items) lists i list [] lt)

pub user_known : (uses : List (List ℕ)) (user used : ℕ) → Uses uses user used → user < length uses
user_known uses user used c = elim (cases_lt user (length uses)) [
  | inl lt ↦ lt
  | inr le ↦ absurd (none_in used (subst (λ (list : List ℕ). Contains list used) (get_or_past uses user [] le) c))
]

pub all_known : (uses : List (List ℕ)) (user : ℕ) → AreKnown uses → user < length uses → All (λ used. used < length uses) (used_by uses user)
all_known uses user known lt = known user [] lt

pub used_known : (uses : List (List ℕ)) (user used : ℕ) → AreKnown uses → Uses uses user used → used < length uses
used_known uses user used known c = All-contains (λ number. number < length uses) (used_by uses user) used (all_known uses user known (user_known uses user used c)) c

-- ---- one entry more

front_more : (list : List ℕ) (i number : ℕ) → i < length list → Contains (take i list) number → Contains (take (i + 1) list) number
front_more list i number lt c = subst (λ l. Contains l number) (sym (take_more list i 0 lt)) (Contains-append_left (take i list) (get_or list i 0 ∷ []) number c)

front_last : (list : List ℕ) (i : ℕ) → i < length list → Contains (take (i + 1) list) (get_or list i 0)
front_last list i lt = subst (λ l. Contains l (get_or list i 0)) (sym (take_more list i 0 lt)) (Contains-push (take i list) (get_or list i 0))

pub none_added : (list : List ℕ) (user : ℕ) (lists : List (List ℕ)) → AreAdded (take 0 list) user lists lists
none_added list user lists = record {
  sized = refl;
  kept = λ used other c. c;
  here = All-nil (λ used. Uses lists used user);
  only = λ used other c. inl c;
}

module _ (list : List ℕ) (i user used : ℕ) (before mid after : List (List ℕ)) (added : AreAdded (take i list) user before mid) (lt : i < length list) (is : used ≡ get_or list i 0)
    (known : used < length mid) (put : after ≡ set mid used (used_by mid used ++ user ∷ [])) where
  at_used : used_by after used ≡ used_by mid used ++ user ∷ []
  at_used = ap (λ l. used_by l used) put ∙ get_or-set_same mid used (used_by mid used ++ user ∷ []) [] known

  at_other : (other : ℕ) → other ≢ used → used_by after other ≡ used_by mid other
  at_other other ne = ap (λ l. used_by l other) put ∙ get_or-set_other mid used other (used_by mid used ++ user ∷ []) [] ne

  stays : (m other : ℕ) → Uses mid m other → Uses after m other
  stays m other c = elim (cases_eq m used) [
    | inl e ↦ subst (λ n. Uses after n other) (sym e) (subst (λ l. Contains l other) (sym at_used) (Contains-append_left (used_by mid used) (user ∷ []) other (subst (λ n. Uses mid n other) e c)))
    | inr ne ↦ subst (λ l. Contains l other) (sym (at_other m ne)) c
  ]

  now_there : Uses after used user
  now_there = subst (λ l. Contains l user) (sym at_used) (Contains-push (used_by mid used) user)

  from : (m other : ℕ) → Uses after m other → Uses mid m other ⊎ ((other ≡ user) × (m ≡ used))
  from m other c = elim (cases_eq m used) [
    | inl e ↦ elim (Contains-push_cases (used_by mid used) user other (subst (λ l. Contains l other) at_used (subst (λ n. Uses after n other) e c))) [
      | inl old ↦ inl (subst (λ n. Uses mid n other) (sym e) old)
      | inr same ↦ inr (sym same, e)
    ]
    | inr ne ↦ inl (subst (λ l. Contains l other) (at_other m ne) c)
  ]

  pub added_more : AreAdded (take (i + 1) list) user before after
  added_more = record {
    sized = ap length put ∙ length-set mid used (used_by mid used ++ user ∷ []) ∙ added.sized;
    kept = λ m other c. stays m other (added.kept m other c);
    here = All-more (λ m. Uses after m user) list i 0 lt (All-weaker (λ m. Uses mid m user) (λ m. Uses after m user) (λ m c. stays m user c) (take i list) added.here) (subst (λ m. Uses after m user) is now_there);
    only = λ m other c. elim (from m other c) [
      | inl old ↦ elim (added.only m other old) [
        | inl before ↦ inl before
        | inr new ↦ inr (new.0, front_more list i m lt new.1)
      ]
      | inr new ↦ inr (new.0, subst (λ n. Contains (take (i + 1) list) n) (sym (new.1 ∙ is)) (front_last list i lt))
    ];
  }

pub all_added : (list : List ℕ) (i user : ℕ) (before after : List (List ℕ)) → length list ≤ i → AreAdded (take i list) user before after → AreAdded list user before after
all_added list i user before after le added = subst (λ l. AreAdded l user before after) (take_all i list le) added

-- the users of the numbers so far
pub record AreUsersTo (i : ℕ) (uses users : List (List ℕ)) : Type 0 where
  pub sized : length users ≡ length uses
  pub all : (user used : ℕ) → user < i → Uses uses user used → Uses users used user
  pub only : (user used : ℕ) → Uses users used user → Uses uses user used

pub users_more : (i : ℕ) (list : List ℕ) (uses before after : List (List ℕ)) → AreUsersTo i uses before → list ≡ used_by uses i → AreAdded list i before after → AreUsersTo (i + 1) uses after
users_more i list uses before after users is added = record {
  sized = added.sized ∙ users.sized;
  all = λ user used lt c. elim (cases_lt user i) [
    | inl old ↦ added.kept used user (users.all user used old c)
    | inr le ↦
        let e : i ≡ user = omega arith in
        subst (λ n. Uses after used n) e (All-contains (λ m. Uses after m i) list used added.here (subst (λ l. Contains l used) (sym is) (subst (λ n. Uses uses n used) (sym e) c)))
  ];
  only = λ user used c. elim (added.only used user c) [
    | inl old ↦ users.only user used old
    | inr new ↦ subst (λ n. Uses uses n used) (sym new.0) (subst (λ l. Contains l used) is new.1)
  ];
}

pub users_all : (i : ℕ) (uses users : List (List ℕ)) → AreUsersTo i uses users → length uses ≤ i → AreUsers uses users
users_all i uses users to le = record {
  sized = to.sized;
  all = λ user used c. let lt : user < length uses = user_known uses user used c in to.all user used (omega arith) c;
  only = to.only;
}

pub no_users : {A : Type 0} (lists : List (Vec ℕ A)) (uses : List (List ℕ)) → length lists ≡ length uses → All (λ list. list.items ≡ []) lists → AreUsersTo 0 uses (lists_of lists)
no_users lists uses sized none = record {
  sized = lists_length lists ∙ sized;
  all = λ user used lt c. absurd (omega arith);
  only = λ user used c. absurd (none_in user (subst (λ (l : List ℕ). Contains l user) (empty used) c));
}
  where
    empty : (n : ℕ) → used_by (lists_of lists) n ≡ []
    empty n = elim (cases_lt n (length (lists_of lists))) [
      | inl lt ↦ All-map (λ l. l ≡ []) (λ v. v.items) lists none n [] lt
      | inr past ↦ get_or_past (lists_of lists) n [] past
    ]

pub users_within : {A : Type 0} (uses : List (List ℕ)) (lists : List (Vec ℕ A)) → AreUsers uses (lists_of lists) → All (All (λ user. user < length lists)) (lists_of lists)
users_within uses lists are k d less j e lesser =
    let user : ℕ = get_or (get_or (lists_of lists) k d) j e in
    let there : Contains (get_or (lists_of lists) k d) user = Contains-get_or (get_or (lists_of lists) k d) j e lesser in
    let same : get_or (lists_of lists) k d ≡ used_by (lists_of lists) k = get_or_default (lists_of lists) k d [] less in
    let below : user < length uses = user_known uses user k (are.only user k (subst (λ (l : List ℕ). Contains l user) same there)) in
    let size : length (lists_of lists) ≡ length lists = lists_length lists in
    let sized : length (lists_of lists) ≡ length uses = are.sized in
    omega (arith, below, size, sized)
