-- The search that finishes each number after those that it uses: what each turn keeps.
use Rattle.std.proofs.Common.{◌≡◌, ◌≢◌, ℕ, ◌<◌, Bool, true, false, cond, List, [], ◌∷◌, ◌++◌, length, get_or, set, All, Contains, ◌⊎◌, inl, inr, refl, sym, subst, ◌∙◌, arith, append_assoc, append-nil, length-set}
use Rattle.std.specs.Prelude.{◌==◌}
use Rattle.std.proofs.lemmas.Bool.{cases_eq, eqb-false}
use Rattle.std.proofs.lemmas.List.{get_or-set_other, get_or-set_same}
use Rattle.std.proofs.lemmas.List.Elements.{All-cons, All-contains, All-nil, All-push, All-tail, All-weaker, Contains-append_cases, Contains-append_left, Contains-append_right, Contains-get_or, Contains-push, Contains-push_cases}
use Rattle.ftn_base.specs.ModuleUses.{Uses, used_by}
use Rattle.const_value.specs.steps.Components.{Leads, up_to, IsHeld, AreApart}
use Rattle.const_value.specs.steps.Searching.{IsMarked, LeadDown, IsVisited, Stays}
use Rattle.const_value.proofs.Leading.{leads_itself, leads_on, leads_by_use}

-- ---- lists

pub All-left : {X : Type 0} (P : X → Type 0) (xs ys : List X) → All P (xs ++ ys) → All P xs
All-left P [] ys all = All-nil P
All-left P (x ∷ xs) ys all = All-cons P x xs (All-contains P (x ∷ (xs ++ ys)) x all (Contains-get_or (x ∷ (xs ++ ys)) 0 x (omega arith))) (All-left P xs ys (All-tail P x (xs ++ ys) all))

pub All-right : {X : Type 0} (P : X → Type 0) (xs ys : List X) → All P (xs ++ ys) → All P ys
All-right P [] ys all = all
All-right P (x ∷ xs) ys all = All-right P xs ys (All-tail P x (xs ++ ys) all)

pub All-last : {X : Type 0} (P : X → Type 0) (xs : List X) (x : X) → All P (xs ++ x ∷ []) → P x
All-last P xs x all = All-contains P (xs ++ x ∷ []) x all (Contains-push xs x)

pub All-head : {X : Type 0} (P : X → Type 0) (x : X) (xs : List X) → All P (x ∷ xs) → P x
All-head P x xs all = All-contains P (x ∷ xs) x all (Contains-get_or (x ∷ xs) 0 x (omega arith))

pub none_in : (n : ℕ) → Contains [] n → ⊥
none_in n there = let less : there.0 < 0 = there.1 in omega arith

pub one_is : (x n : ℕ) → Contains (x ∷ []) n → x ≡ n
one_is x n there = elim (Contains-push_cases [] x n there) [
  | inl none ↦ absurd (none_in n none)
  | inr same ↦ same
]

-- ---- no number twice

apart_left : (xs ys : List ℕ) → AreApart (xs ++ ys) → AreApart xs
apart_left [] ys apart = tt
apart_left (x ∷ xs) ys apart = (All-left (λ y. x ≢ y) xs ys apart.0, apart_left xs ys apart.1)

apart_right : (xs ys : List ℕ) → AreApart (xs ++ ys) → AreApart ys
apart_right [] ys apart = apart
apart_right (x ∷ xs) ys apart = apart_right xs ys apart.1

apart_push : (xs : List ℕ) (n : ℕ) → AreApart xs → (Contains xs n → ⊥) → AreApart (xs ++ n ∷ [])
apart_push [] n apart none = (All-nil (λ y. n ≢ y), tt)
apart_push (x ∷ xs) n apart none = (
  All-push (λ y. x ≢ y) xs n apart.0 (λ same. none (subst (λ k. Contains (x ∷ xs) k) same (Contains-get_or (x ∷ xs) 0 x (omega arith)))),
  apart_push xs n apart.1 (λ there. none (Contains-append_right (x ∷ []) xs n there)),
)

apart_last : (xs : List ℕ) (n : ℕ) → AreApart (xs ++ n ∷ []) → Contains xs n → ⊥
apart_last [] n apart there = none_in n there
apart_last (x ∷ xs) n apart there = elim (Contains-append_cases (x ∷ []) xs n there) [
  | inl here ↦ All-last (λ y. x ≢ y) xs n apart.0 (one_is x n here)
  | inr later ↦ apart_last xs n apart.1 later
]

-- ---- chains

down_push : (uses : List (List ℕ)) (xs : List ℕ) (n : ℕ) → LeadDown uses xs → All (λ x. Leads uses x n) xs → LeadDown uses (xs ++ n ∷ [])
down_push uses [] n chain all = (All-nil (Leads uses n), tt)
down_push uses (x ∷ xs) n chain all =
    (All-push (Leads uses x) xs n chain.0 (All-head (λ x. Leads uses x n) x xs all), down_push uses xs n chain.1 (All-tail (λ x. Leads uses x n) x xs all))

down_left : (uses : List (List ℕ)) (xs ys : List ℕ) → LeadDown uses (xs ++ ys) → LeadDown uses xs
down_left uses [] ys chain = tt
down_left uses (x ∷ xs) ys chain = (All-left (Leads uses x) xs ys chain.0, down_left uses xs ys chain.1)

down_last : (uses : List (List ℕ)) (xs : List ℕ) (n : ℕ) → LeadDown uses (xs ++ n ∷ []) → All (λ x. Leads uses x n) xs
down_last uses [] n chain = All-nil (λ x. Leads uses x n)
down_last uses (x ∷ xs) n chain = All-cons (λ x. Leads uses x n) x xs (All-last (Leads uses x) xs n chain.0) (down_last uses xs n chain.1)

-- all that are open lead to the last of them
all_lead : (uses : List (List ℕ)) (xs : List ℕ) (n : ℕ) → LeadDown uses (xs ++ n ∷ []) → All (λ x. Leads uses x n) (xs ++ n ∷ [])
all_lead uses xs n chain = All-push (λ x. Leads uses x n) xs n (down_last uses xs n chain) (leads_itself uses n)

-- ---- one that is finished, at the end of those before

up_to_push : (y n : ℕ) (zs : List ℕ) (P : ℕ → Type 0) → All P (up_to y zs) → (Contains zs y ⊎ P n) → All P (up_to y (zs ++ n ∷ []))
up_to_push y n [] P all (inl there) = absurd (none_in y there)
up_to_push y n [] P all (inr one) = by (n == y) where
  by : (b : Bool) → All P (cond b [] (n ∷ []))
  by true = All-nil P
  by false = All-cons P n [] one (All-nil P)
up_to_push y n (z ∷ zs) P all either = by (z == y) refl all either (up_to_push y n zs P) where
  rest : (z == y) ≡ false → Contains (z ∷ zs) y ⊎ P n → Contains zs y ⊎ P n
  rest differ (inr one) = inr one
  rest differ (inl there) = elim (Contains-append_cases (z ∷ []) zs y there) [
    | inl here ↦ absurd (eqb-false z y differ (one_is z y here))
    | inr later ↦ inl later
  ]

  by : (b : Bool) → (z == y) ≡ b → All P (cond b [] (z ∷ up_to y zs)) → Contains (z ∷ zs) y ⊎ P n → (All P (up_to y zs) → Contains zs y ⊎ P n → All P (up_to y (zs ++ n ∷ [])))
      → All P (cond b [] (z ∷ up_to y (zs ++ n ∷ [])))
  by true same all either more = All-nil P
  by false differ all either more = All-cons P z (up_to y (zs ++ n ∷ [])) (All-head P z (up_to y zs) all) (more (All-tail P z (up_to y zs) all) (rest differ either))

module _ (uses : List (List ℕ)) (n : ℕ) where
  -- what a number uses is finished, or leads to the one that is finished now
  held_push : (before rest : List ℕ) → IsHeld uses before rest → ((x y : ℕ) → Contains rest x → Uses uses x y → Contains (before ++ rest) y ⊎ Leads uses y n)
      → ((y : ℕ) → Uses uses n y → Contains ((before ++ rest) ++ n ∷ []) y ⊎ Leads uses y n) → IsHeld uses before (rest ++ n ∷ [])
  held_push before [] held old new = (λ y use_of. by y (new y use_of), tt) where
    by : (y : ℕ) → Contains ((before ++ []) ++ n ∷ []) y ⊎ Leads uses y n → Contains (before ++ n ∷ []) y ⊎ All (Leads uses y) (n ∷ [])
    by y (inl there) = inl (subst (λ xs. Contains (xs ++ n ∷ []) y) (append-nil before) there)
    by y (inr one) = inr (All-cons (Leads uses y) n [] one (All-nil (Leads uses y)))
  held_push before (x ∷ rest) held old new = (λ y use_of. by y (held.0 y use_of) (old x y (Contains-get_or (x ∷ rest) 0 x (omega arith)) use_of), held_push (before ++ x ∷ []) rest held.1 more next) where
    joined : before ++ x ∷ rest ≡ (before ++ x ∷ []) ++ rest
    joined = sym (append_assoc before (x ∷ []) rest)

    more : (z y : ℕ) → Contains rest z → Uses uses z y → Contains ((before ++ x ∷ []) ++ rest) y ⊎ Leads uses y n
    more z y there use_of = subst (λ xs. Contains xs y ⊎ Leads uses y n) joined (old z y (Contains-append_right (x ∷ []) rest z there) use_of)

    next : (y : ℕ) → Uses uses n y → Contains (((before ++ x ∷ []) ++ rest) ++ n ∷ []) y ⊎ Leads uses y n
    next y use_of = subst (λ xs. Contains (xs ++ n ∷ []) y ⊎ Leads uses y n) joined (new y use_of)

    later : (y : ℕ) → All (Leads uses y) (x ∷ up_to y rest) → Contains rest y ⊎ Leads uses y n → All (Leads uses y) (x ∷ up_to y (rest ++ n ∷ []))
    later y all either = All-cons (Leads uses y) x (up_to y (rest ++ n ∷ [])) (All-head (Leads uses y) x (up_to y rest) all) (up_to_push y n rest (Leads uses y) (All-tail (Leads uses y) x (up_to y rest) all) either)

    by : (y : ℕ) → Contains (before ++ x ∷ []) y ⊎ All (Leads uses y) (x ∷ up_to y rest) → Contains (before ++ x ∷ rest) y ⊎ Leads uses y n
        → Contains (before ++ x ∷ []) y ⊎ All (Leads uses y) (x ∷ up_to y (rest ++ n ∷ []))
    by y (inl there) either = inl there
    by y (inr all) (inr one) = inr (later y all (inr one))
    by y (inr all) (inl there) = elim (Contains-append_cases (before ++ x ∷ []) rest y (subst (λ xs. Contains xs y) joined there)) [
      | inl here ↦ inl here
      | inr found ↦ inr (later y all (inl found))
    ]

-- ---- marks

pub mark_here : (seen : List Bool) (n : ℕ) → n < length seen → IsMarked (set seen n true) n
mark_here seen n known = get_or-set_same seen n true false known

pub mark_stays : (seen : List Bool) (n : ℕ) → n < length seen → Stays seen (set seen n true)
mark_stays seen n known number marked = elim (cases_eq number n) [
  | inl same ↦ subst (λ k. IsMarked (set seen n true) k) (sym same) (mark_here seen n known)
  | inr differ ↦ get_or-set_other seen n number true false differ ∙ marked
]

mark_old : (seen : List Bool) (n number : ℕ) → number ≢ n → IsMarked (set seen n true) number → IsMarked seen number
mark_old seen n number differ marked = sym (get_or-set_other seen n number true false differ) ∙ marked

all_stay : (before after : List Bool) → Stays before after → (xs : List ℕ) → All (IsMarked before) xs → All (IsMarked after) xs
all_stay before after stays xs all = All-weaker (IsMarked before) (IsMarked after) stays xs all

-- ---- one turn

module _ (uses : List (List ℕ)) (seen : List Bool) (order : List ℕ) where
  -- one more is opened
  pub opened : (stack : List ℕ) (to : ℕ) → IsVisited uses seen stack order → to < length uses → get_or seen to false ≡ false → All (λ x. Leads uses x to) stack
      → IsVisited uses (set seen to true) (stack ++ to ∷ []) order
  opened stack to v known new leading =
      let size : to < length seen = subst (λ n. to < n) (sym v.sized) known in
      let stays = mark_stays seen to size in record {
        sized = length-set seen to true ∙ v.sized;
        open_known = All-push (λ number. number < length uses) stack to v.open_known known;
        order_known = v.order_known;
        open_seen = All-push (IsMarked (set seen to true)) stack to (all_stay seen (set seen to true) stays stack v.open_seen) (mark_here seen to size);
        order_seen = all_stay seen (set seen to true) stays order v.order_seen;
        all = λ number marked. elim (cases_eq number to) [
          | inl same ↦ inr (subst (λ k. Contains (stack ++ to ∷ []) k) (sym same) (Contains-push stack to))
          | inr differ ↦ elim (v.all number (mark_old seen to number differ marked)) [
            | inl finished ↦ inl finished
            | inr there ↦ inr (Contains-append_left stack (to ∷ []) number there)
          ]
        ];
        open_apart = apart_push stack to v.open_apart (λ there. unmarked (All-contains (IsMarked seen) stack to v.open_seen there));
        order_apart = v.order_apart;
        fresh = λ number finished there. elim (Contains-push_cases stack to number there) [
          | inl old ↦ v.fresh number finished old
          | inr same ↦ unmarked (subst (λ k. IsMarked seen k) (sym same) (All-contains (IsMarked seen) order number v.order_seen finished))
        ];
        chain = down_push uses stack to v.chain leading;
        done = All-weaker (λ x. All (IsMarked seen) (used_by uses x)) (λ x. All (IsMarked (set seen to true)) (used_by uses x)) (λ x all. all_stay seen (set seen to true) stays (used_by uses x) all) order v.done;
        held = v.held;
      }
    where
      unmarked : IsMarked seen to → ⊥
      unmarked marked = absurd (cc (marked, new))

  -- the last one uses another, which is opened
  pub opened_more : (stack : List ℕ) (n to : ℕ) → IsVisited uses seen (stack ++ n ∷ []) order → to < length uses → get_or seen to false ≡ false → Uses uses n to
      → IsVisited uses (set seen to true) ((stack ++ n ∷ []) ++ to ∷ []) order
  opened_more stack n to v known new use_of =
      opened (stack ++ n ∷ []) to v known new
      (All-weaker (λ x. Leads uses x n) (λ x. Leads uses x to) (λ x one. leads_on uses x n to one (leads_by_use uses n to use_of)) (stack ++ n ∷ []) (all_lead uses stack n v.chain))

  -- the last one is finished
  pub finished : (stack : List ℕ) (n : ℕ) → IsVisited uses seen (stack ++ n ∷ []) order → All (IsMarked seen) (used_by uses n) → IsVisited uses seen stack (order ++ n ∷ [])
  finished stack n v used = record {
    sized = v.sized;
    open_known = All-left (λ number. number < length uses) stack (n ∷ []) v.open_known;
    order_known = All-push (λ number. number < length uses) order n v.order_known (All-last (λ number. number < length uses) stack n v.open_known);
    open_seen = All-left (IsMarked seen) stack (n ∷ []) v.open_seen;
    order_seen = All-push (IsMarked seen) order n v.order_seen (All-last (IsMarked seen) stack n v.open_seen);
    all = λ number marked. elim (v.all number marked) [
      | inl before ↦ inl (Contains-append_left order (n ∷ []) number before)
      | inr there ↦ elim (Contains-push_cases stack n number there) [
        | inl old ↦ inr old
        | inr same ↦ inl (subst (λ k. Contains (order ++ n ∷ []) k) same (Contains-push order n))
      ]
    ];
    open_apart = apart_left stack (n ∷ []) v.open_apart;
    order_apart = apart_push order n v.order_apart (λ there. v.fresh n there (Contains-push stack n));
    fresh = λ number before there. elim (Contains-push_cases order n number before) [
      | inl old ↦ v.fresh number old (Contains-append_left stack (n ∷ []) number there)
      | inr same ↦ apart_last stack n v.open_apart (subst (λ k. Contains stack k) (sym same) there)
    ];
    chain = down_left uses stack (n ∷ []) v.chain;
    done = All-push (λ x. All (IsMarked seen) (used_by uses x)) order n v.done used;
    held = held_push uses n [] order v.held (λ x y there use_of. met y (All-contains (IsMarked seen) (used_by uses x) y (All-contains (λ x. All (IsMarked seen) (used_by uses x)) order x v.done there) use_of))
        (λ y use_of. last y (All-contains (IsMarked seen) (used_by uses n) y used use_of));
  }
    where
      met : (y : ℕ) → IsMarked seen y → Contains order y ⊎ Leads uses y n
      met y marked = elim (v.all y marked) [
        | inl before ↦ inl before
        | inr there ↦ inr (All-contains (λ x. Leads uses x n) (stack ++ n ∷ []) y (all_lead uses stack n v.chain) there)
      ]

      last : (y : ℕ) → IsMarked seen y → Contains (order ++ n ∷ []) y ⊎ Leads uses y n
      last y marked = elim (met y marked) [
        | inl before ↦ inl (Contains-append_left order (n ∷ []) y before)
        | inr leads ↦ inr leads
      ]
