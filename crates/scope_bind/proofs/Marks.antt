-- Modules that use each module, and marks on those from which uses lead to one.
use Rattle.std.proofs.Common.{◌≡◌, ◌≢◌, ℕ, zero, suc, ◌+◌, ◌<◌, ◌≤◌, Bool, true, false, nat_eq, List, [], ◌∷◌, ◌++◌, Vec, length, get_or, set, take, take_all, replicate, All, Contains, Some, slice_get, ◌⊎◌, inl, inr, refl, sym, subst, ap, ◌∙◌, arith, length-set}
use Rattle.std.specs.List.{list_any}
use Rattle.std.proofs.lemmas.Bool.{cases_Bool, cases_eq, cases_lt, eqb-true}
use Rattle.std.proofs.lemmas.List.{get_or_past, get_or-set_other, get_or-set_same, length-replicate, take_more}
use Rattle.std.proofs.lemmas.List.Folds.{Any-from_list_any}
use Rattle.std.proofs.lemmas.Option.{slice_get-get_or}
use Rattle.std.proofs.lemmas.List.Elements.{All-contains, All-map, All-more, All-nil, All-weaker, Contains-append_left, Contains-get_or, Contains-push, Contains-push_cases}
use Rattle.ftn_base.specs.ModuleCycles.{IsChain, IsLeastCycle, IsOnCycle}
use Rattle.ftn_base.specs.ModuleUses.{AreKnown, Uses, used_by}
use Rattle.module_graph.specs.Uses.{used_lists}
use Rattle.module_graph.specs.steps.Marks.{IsMarked}
use Rattle.module_graph.proofs.Chains.{on_cycle_known}
use Rattle.module_graph.proofs.Listing.{lists_length, user_known}
use Rattle.module_graph.proofs.Marking.{all_unmarked, front_cases, in_front, in_rest, mark_here, mark_more, mark_other, none_in, not_both}
use Rattle.ftn_tree.specs.NameFaults.{leads, leads_to}
use Rattle.scope_bind.specs.steps.Cycles.{AreAdded, AreMarked, AreUsers, IsLeading, IsLeastOn}
use Rattle.scope_bind.proofs.Leading.{leads_by_any, leads_one_more, same_number}
use Rattle.scope_bind.proofs.Members.{or_cases}

-- ---- one entry more

front_more : (list : List ℕ) (i number : ℕ) → i < length list → Contains (take i list) number → Contains (take (i + 1) list) number
front_more list i number lt c = subst (λ l. Contains l number) (sym (take_more list i 0 lt)) (Contains-append_left (take i list) (get_or list i 0 ∷ []) number c)

front_last : (list : List ℕ) (i : ℕ) → i < length list → Contains (take (i + 1) list) (get_or list i 0)
front_last list i lt = subst (λ l. Contains l (get_or list i 0)) (sym (take_more list i 0 lt)) (Contains-push (take i list) (get_or list i 0))

-- ---- users

pub none_added : (list : List ℕ) (user : ℕ) (lists : List (List ℕ)) → AreAdded (take 0 list) user lists lists
none_added list user lists = record {
  kept = λ used other c. c;
  here = All-nil (λ used. Uses lists used user);
  only = λ used other c. inl c;
}

module _ (list : List ℕ) (i user used : ℕ) (before mid after : List (List ℕ)) (added : AreAdded (take i list) user before mid) (lt : i < length list) (is : used ≡ get_or list i 0)
    (known : used < length mid) (put : after ≡ set mid used (used_by mid used ++ user ∷ [])) where
  at_used : used_by after used ≡ used_by mid used ++ user ∷ []
  at_used = ap (λ l. used_by l used) put ∙ get_or-set_same mid used (used_by mid used ++ user ∷ []) [] known

  at_other : (other : ℕ) → other ≢ used → used_by after other ≡ used_by mid other
  at_other other ne = ap (λ l. used_by l other) put ∙ get_or-set_other mid used other (used_by mid used ++ user ∷ []) [] ne

  stays : (m other : ℕ) → Uses mid m other → Uses after m other
  stays m other c = elim (cases_eq m used) [
    | inl e ↦ subst (λ n. Uses after n other) (sym e) (subst (λ l. Contains l other) (sym at_used) (Contains-append_left (used_by mid used) (user ∷ []) other (subst (λ n. Uses mid n other) e c)))
    | inr ne ↦ subst (λ l. Contains l other) (sym (at_other m ne)) c
  ]

  now_there : Uses after used user
  now_there = subst (λ l. Contains l user) (sym at_used) (Contains-push (used_by mid used) user)

  from : (m other : ℕ) → Uses after m other → Uses mid m other ⊎ ((other ≡ user) × (m ≡ used))
  from m other c = elim (cases_eq m used) [
    | inl e ↦ elim (Contains-push_cases (used_by mid used) user other (subst (λ l. Contains l other) at_used (subst (λ n. Uses after n other) e c))) [
      | inl old ↦ inl (subst (λ n. Uses mid n other) (sym e) old)
      | inr same ↦ inr (sym same, e)
    ]
    | inr ne ↦ inl (subst (λ l. Contains l other) (at_other m ne) c)
  ]

  pub added_more : AreAdded (take (i + 1) list) user before after
  added_more = record {
    kept = λ m other c. stays m other (added.kept m other c);
    here = All-more (λ m. Uses after m user) list i 0 lt (All-weaker (λ m. Uses mid m user) (λ m. Uses after m user) (λ m c. stays m user c) (take i list) added.here) (subst (λ m. Uses after m user) is now_there);
    only = λ m other c. elim (from m other c) [
      | inl old ↦ elim (added.only m other old) [
        | inl before ↦ inl before
        | inr new ↦ inr (new.0, front_more list i m lt new.1)
      ]
      | inr new ↦ inr (new.0, subst (λ n. Contains (take (i + 1) list) n) (sym (new.1 ∙ is)) (front_last list i lt))
    ];
  }

pub all_added : (list : List ℕ) (i user : ℕ) (before after : List (List ℕ)) → length list ≤ i → AreAdded (take i list) user before after → AreAdded list user before after
all_added list i user before after le added = subst (λ l. AreAdded l user before after) (take_all i list le) added

-- the users of the modules so far
pub record AreUsersTo (i : ℕ) (uses users : List (List ℕ)) : Type 0 where
  pub sized : length users ≡ length uses
  pub all : (user used : ℕ) → user < i → Uses uses user used → Uses users used user
  pub only : (user used : ℕ) → Uses users used user → Uses uses user used

pub users_more : (i : ℕ) (list : List ℕ) (uses before after : List (List ℕ)) → AreUsersTo i uses before → length after ≡ length uses → list ≡ used_by uses i → AreAdded list i before after → AreUsersTo (i + 1) uses after
users_more i list uses before after users sized is added = record {
  sized = sized;
  all = λ user used lt c. elim (cases_lt user i) [
    | inl old ↦ added.kept used user (users.all user used old c)
    | inr le ↦
        let e : i ≡ user = omega arith in
        subst (λ n. Uses after used n) e (All-contains (λ m. Uses after m i) list used added.here (subst (λ l. Contains l used) (sym is) (subst (λ n. Uses uses n used) (sym e) c)))
  ];
  only = λ user used c. elim (added.only used user c) [
    | inl old ↦ users.only user used old
    | inr new ↦ subst (λ n. Uses uses n used) (sym new.0) (subst (λ l. Contains l used) is new.1)
  ];
}

-- ---- marks

module _ (list : List ℕ) (i : ℕ) (marks : List Bool) (stack : List ℕ) (mid_marks : List Bool) (mid_stack : List ℕ) (marked : AreMarked (take i list) marks stack mid_marks mid_stack)
    (lt : i < length list) where
  pub marked_passed : IsMarked mid_marks (get_or list i 0) → AreMarked (take (i + 1) list) marks stack mid_marks mid_stack
  marked_passed here = record {
    sized = marked.sized;
    here = All-more (IsMarked mid_marks) list i 0 lt marked.here here;
    marks_kept = marked.marks_kept;
    stack_kept = marked.stack_kept;
    marked = λ number c. elim (marked.marked number c) [
      | inl old ↦ inl old
      | inr new ↦ inr (front_more list i number lt new.0, new.1)
    ];
    stacked = λ number c. elim (marked.stacked number c) [
      | inl old ↦ inl old
      | inr new ↦ inr (front_more list i number lt new)
    ];
  }

  pub marked_more : (new_marks : List Bool) (new_stack : List ℕ) → get_or list i 0 < length mid_marks → new_marks ≡ set mid_marks (get_or list i 0) true → new_stack ≡ mid_stack ++ get_or list i 0 ∷ []
      → AreMarked (take (i + 1) list) marks stack new_marks new_stack
  marked_more new_marks new_stack known m s =
      let x : ℕ = get_or list i 0 in
      subst (λ ms. AreMarked (take (i + 1) list) marks stack ms new_stack) (sym m)
      (subst (λ st. AreMarked (take (i + 1) list) marks stack (set mid_marks x true) st) (sym s)
      (record {
        sized = length-set mid_marks x true ∙ marked.sized;
        here = All-more (IsMarked (set mid_marks x true)) list i 0 lt (All-weaker (IsMarked mid_marks) (IsMarked (set mid_marks x true)) (λ n c. mark_more mid_marks x n known c) (take i list) marked.here) (mark_here mid_marks x known);
        marks_kept = λ n c. mark_more mid_marks x n known (marked.marks_kept n c);
        stack_kept = λ n c. Contains-append_left mid_stack (x ∷ []) n (marked.stack_kept n c);
        marked = λ n c. elim (cases_eq n x) [
          | inl e ↦ inr (subst (λ k. Contains (take (i + 1) list) k) (sym e) (front_last list i lt), subst (λ k. Contains (mid_stack ++ x ∷ []) k) (sym e) (Contains-push mid_stack x))
          | inr ne ↦ elim (marked.marked n (mark_other mid_marks x n ne c)) [
            | inl old ↦ inl old
            | inr new ↦ inr (front_more list i n lt new.0, Contains-append_left mid_stack (x ∷ []) n new.1)
          ]
        ];
        stacked = λ n c. elim (Contains-push_cases mid_stack x n c) [
          | inl old ↦ elim (marked.stacked n old) [
            | inl before ↦ inl before
            | inr new ↦ inr (front_more list i n lt new)
          ]
          | inr e ↦ inr (subst (λ k. Contains (take (i + 1) list) k) e (front_last list i lt))
        ];
      }))

-- ---- from where uses lead

module _ (uses users : List (List ℕ)) (target : ℕ) where
  -- the last is taken off
  pub taken_off : (marks : List Bool) (stack rest : List ℕ) (used : ℕ) → IsLeading uses users target marks stack → stack ≡ rest ++ used ∷ [] → IsLeading uses users target marks (used ∷ rest)
  taken_off marks stack rest used leading e = record {
    sized = leading.sized;
    target_marked = leading.target_marked;
    known = λ n c. leading.known n (back n c);
    stack_marked = λ n c. leading.stack_marked n (back n c);
    sound = leading.sound;
    done = λ n c. elim (leading.done n c) [
      | inl there ↦ inl (forth n there)
      | inr all ↦ inr all
    ];
  }
    where
      back : (n : ℕ) → Contains (used ∷ rest) n → Contains stack n
      back n c = subst (λ l. Contains l n) (sym e) (elim (front_cases used rest n c) [
        | inl here ↦ subst (λ m. Contains (rest ++ used ∷ []) m) here (Contains-push rest used)
        | inr c ↦ Contains-append_left rest (used ∷ []) n c
      ])

      forth : (n : ℕ) → Contains stack n → Contains (used ∷ rest) n
      forth n c = elim (Contains-push_cases rest used n (subst (λ l. Contains l n) e c)) [
        | inl c ↦ in_rest used rest n c
        | inr here ↦ subst (λ m. Contains (used ∷ rest) m) here (in_front used rest)
      ]

  module _ (right : AreUsers uses users) where
    pub turned : (marks : List Bool) (rest list : List ℕ) (used : ℕ) (new_marks : List Bool) (new_stack : List ℕ) → IsLeading uses users target marks (used ∷ rest) → list ≡ used_by users used
        → AreMarked list marks rest new_marks new_stack → IsLeading uses users target new_marks new_stack
    turned marks rest list used new_marks new_stack leading is marked = record {
      sized = marked.sized ∙ leading.sized;
      target_marked = marked.marks_kept target leading.target_marked;
      known = λ n c. elim (marked.stacked n c) [
        | inl old ↦ leading.known n (in_rest used rest n old)
        | inr new ↦ user_known uses n used (uses_it n new)
      ];
      stack_marked = λ n c. elim (marked.stacked n c) [
        | inl old ↦ marked.marks_kept n (leading.stack_marked n (in_rest used rest n old))
        | inr new ↦ All-contains (IsMarked new_marks) list n marked.here new
      ];
      sound = λ n c. elim (marked.marked n c) [
        | inl old ↦ leading.sound n old
        | inr new ↦ one_more n new.0
      ];
      done = λ n c. elim (marked.marked n c) [
        | inr new ↦ inl new.1
        | inl old ↦ elim (leading.done n old) [
          | inr all ↦ inr (All-weaker (IsMarked marks) (IsMarked new_marks) marked.marks_kept (used_by users n) all)
          | inl there ↦ elim (front_cases used rest n there) [
            | inl here ↦ inr (subst (λ m. All (IsMarked new_marks) (used_by users m)) here (subst (λ l. All (IsMarked new_marks) l) is marked.here))
            | inr c ↦ inl (marked.stack_kept n c)
          ]
        ]
      ];
    }
      where
        uses_it : (n : ℕ) → Contains list n → Uses uses n used
        uses_it n c = right.only n used (subst (λ l. Contains l n) is c)

        one_more : (n : ℕ) → Contains list n → (count : ℕ) × (leads uses count n target ≡ true)
        one_more n c =
            let rest_of = leading.sound used (leading.stack_marked used (in_front used rest)) in
            (suc rest_of.0, leads_one_more uses rest_of.0 n used target (uses_it n c) rest_of.1)

    -- nothing is left to be done
    module _ (marks : List Bool) (leading : IsLeading uses users target marks []) where
      closed : (user used : ℕ) → Uses uses user used → IsMarked marks used → IsMarked marks user
      closed user used c mark = elim (leading.done used mark) [
        | inl none ↦ absurd (none_in used none)
        | inr all ↦ All-contains (IsMarked marks) (used_by users used) user all (right.all user used c)
      ]

      led : (count first : ℕ) → leads uses count first target ≡ true → IsMarked marks first
      led zero first e = subst (λ n. IsMarked marks n) (sym (eqb-true first target e)) leading.target_marked
      led (suc count) first e = by (or_cases (nat_eq first target) (list_any (λ next. leads uses count next target) (used_by uses first)) e) (led count)
        where
          by : (nat_eq first target ≡ true) ⊎ (list_any (λ next. leads uses count next target) (used_by uses first) ≡ true)
              → ((next : ℕ) → leads uses count next target ≡ true → IsMarked marks next) → IsMarked marks first
          by (inl same) again = subst (λ n. IsMarked marks n) (sym (eqb-true first target same)) leading.target_marked
          by (inr some) again =
              let one = Any-from_list_any (λ next. leads uses count next target) (used_by uses first) some in
              closed first one.1 (one.0, one.2, one.3) (again one.1 one.4)

      pub marks_tell : AreKnown uses → target < length uses → (first : ℕ) → get_or marks first false ≡ leads_to uses first target
      marks_tell known within first = by (cases_Bool (get_or marks first false)) (cases_Bool (leads_to uses first target))
        where
          by : (get_or marks first false ≡ true) ⊎ (get_or marks first false ≡ false) → (leads_to uses first target ≡ true) ⊎ (leads_to uses first target ≡ false)
              → get_or marks first false ≡ leads_to uses first target
          by (inl mark) (inl leads) = mark ∙ sym leads
          by (inr bare) (inr none) = bare ∙ sym none
          by (inl mark) (inr none) = absurd (
              let some = leading.sound first mark in
              let leads : leads_to uses first target ≡ true = leads_by_any uses target within some.0 first some.1 in
              cc)
          by (inr bare) (inl leads) = absurd (let mark : IsMarked marks first = led (length uses) first leads in cc)

pub told_by : (marks : List Bool) (first : ℕ) (b : Bool) → first < length marks → get_or marks first false ≡ b → slice_get marks first ≡ Some b
told_by marks first b lt e = slice_get-get_or marks first false lt ∙ ap Some e

pub begun : (uses users : List (List ℕ)) (target : ℕ) (marks : List Bool) → length users ≡ length uses → target < length uses → marks ≡ set (replicate (length uses) false) target true
    → IsLeading uses users target marks (target ∷ [])
begun uses users target marks sized within e = record {
  sized = size;
  target_marked = here;
  known = λ n c. elim (front_cases target [] n c) [
    | inl same ↦ subst (λ k. k < length uses) same within
    | inr none ↦ absurd (none_in n none)
  ];
  stack_marked = λ n c. elim (front_cases target [] n c) [
    | inl same ↦ subst (λ k. IsMarked marks k) same here
    | inr none ↦ absurd (none_in n none)
  ];
  sound = λ n c. (0, subst (λ k. leads uses 0 k target ≡ true) (sym (only n c)) (same_number target));
  done = λ n c. inl (subst (λ k. Contains (target ∷ []) k) (sym (only n c)) (in_front target []));
}
  where
    size : length marks ≡ length uses
    size = ap length e ∙ length-set (replicate (length uses) false) target true ∙ length-replicate (length uses) false

    here : IsMarked marks target
    here = subst (λ ms. IsMarked ms target) (sym e) (mark_here (replicate (length uses) false) target (omega (arith, length-replicate (length uses) false)))

    only : (n : ℕ) → IsMarked marks n → n ≡ target
    only n c = elim (cases_eq n target) [
      | inl same ↦ same
      | inr ne ↦ absurd (not_both (replicate (length uses) false) n (mark_other (replicate (length uses) false) target n ne (subst (λ ms. IsMarked ms n) e c)) (all_unmarked (replicate (length uses) false) (length uses) n refl))
    ]

-- ---- no users at first

pub no_users : {A : Type 0} (lists : List (Vec ℕ A)) (uses : List (List ℕ)) → length lists ≡ length uses → All (λ list. list.items ≡ []) lists → AreUsersTo 0 uses (used_lists lists)
no_users lists uses size none = record {
  sized = lists_length lists ∙ size;
  all = λ user used lt c. absurd (omega arith);
  only = λ user used c. absurd (none_in user (subst (λ l. Contains l user) (empty used) c));
}
  where
    empty : (n : ℕ) → used_by (used_lists lists) n ≡ []
    empty n = elim (cases_lt n (length (used_lists lists))) [
      | inl lt ↦ All-map (λ l. l ≡ []) (λ v. v.items) lists none n [] lt
      | inr past ↦ get_or_past (used_lists lists) n [] past
    ]

-- ---- the least cycle

pub first_least : (uses : List (List ℕ)) (list : List ℕ) (first : ℕ) → IsLeastCycle uses list → first ≡ get_or list 0 first → IsLeastOn uses first
first_least uses [] first least e = absurd least.ring
first_least uses (x ∷ between) first least e = record {
  within = on_cycle_known uses first on;
  on = on;
  least = λ lesser lt c. least.least lesser (subst (λ n. lesser < n) e lt) c;
}
  where
    on : IsOnCycle uses first
    on = (between, subst (λ n. IsChain uses n between n) (sym e) least.ring)

pub users_known : (uses users : List (List ℕ)) (list : List ℕ) (used : ℕ) → AreUsers uses users → list ≡ used_by users used → All (λ n. n < length uses) list
users_known uses users list used right is k d lt =
    user_known uses (get_or list k d) used (right.only (get_or list k d) used (subst (λ l. Contains l (get_or list k d)) is (Contains-get_or list k d lt)))

pub nothing_left : (stack : List ℕ) → (0 < length stack → false ≡ true) → stack ≡ []
nothing_left [] none = refl
nothing_left (x ∷ rest) none = absurd (let no_more : false ≡ true = none (omega arith) in cc)
