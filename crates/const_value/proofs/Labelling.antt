-- Labels of numbers that lead to one another: what each turn keeps.
use Rattle.std.proofs.Common.{◌≡◌, ◌≢◌, ℕ, zero, suc, ◌<◌, ◌≤◌, Bool, true, false, cond, List, [], ◌∷◌, ◌++◌, length, get_or, set, take, drop, drop-cons, ◌-◌, All, Contains, Option, Some, None, ◌⊎◌, inl, inr, refl, sym, subst, ap, ap₂, ◌∙◌, arith, append_assoc, length-set}
use Rattle.std.specs.Prelude.{◌==◌}
use Rattle.std.specs.Option.{is_some}
use Rattle.std.proofs.lemmas.Bool.{cases_eq, eqb-true, eqb-false}
use Rattle.std.proofs.lemmas.List.{get_or-set_other, get_or-set_same, take-append-drop}
use Rattle.std.proofs.lemmas.List.Elements.{All-append, All-cons, All-contains, All-nil, All-weaker, Contains-append_cases, Contains-append_left, Contains-append_right, Contains-get_or, Contains-push, Contains-push_cases}
use Rattle.ftn_base.specs.ModuleUses.{Uses, used_by}
use Rattle.const_value.specs.steps.Components.{Leads, up_to, IsHeld, AreApart, IsFinishOrder}
use Rattle.const_value.specs.steps.Labelling.{label_at, IsLabelled, AreUsers, AreSpread, Reaches, IsSpreading, AreSound, IsRoot, AreLabels}
use Rattle.const_value.proofs.Leading.{leads_itself, leads_on, leads_by_use, leads_back}
use Rattle.const_value.proofs.Searching.{All-right, All-head, none_in, one_is}

-- ---- places in lists without repeats

pub record Split (xs : List ℕ) (n : ℕ) : Type 0 where
  pub before : List ℕ
  pub after : List ℕ
  pub is : xs ≡ before ++ n ∷ after

pub split_at : (xs : List ℕ) (n : ℕ) → Contains xs n → Split xs n
split_at [] n there = absurd (none_in n there)
split_at (x ∷ xs) n there = elim (Contains-append_cases (x ∷ []) xs n there) [
  | inl here ↦ record { before = []; after = xs; is = ap (λ k. k ∷ xs) (one_is x n here) }
  | inr later ↦
      let s = split_at xs n later in
      record { before = x ∷ s.before; after = s.after; is = ap (λ ys. x ∷ ys) s.is }
]

apart_from : (xs : List ℕ) (n : ℕ) (ys : List ℕ) → AreApart (xs ++ n ∷ ys) → Contains xs n → ⊥
apart_from [] n ys apart there = none_in n there
apart_from (x ∷ xs) n ys apart there = elim (Contains-append_cases (x ∷ []) xs n there) [
  | inl here ↦ All-head (λ y. x ≢ y) n ys (All-right (λ y. x ≢ y) xs (n ∷ ys) apart.0) (one_is x n here)
  | inr later ↦ apart_from xs n ys apart.1 later
]

apart_rest : (xs ys : List ℕ) → AreApart (xs ++ ys) → AreApart ys
apart_rest [] ys apart = apart
apart_rest (x ∷ xs) ys apart = apart_rest xs ys apart.1

up_to_all : (n : ℕ) (xs ys : List ℕ) → (Contains xs n → ⊥) → up_to n (xs ++ n ∷ ys) ≡ xs
up_to_all n [] ys none = by (n == n) refl where
  by : (b : Bool) → (n == n) ≡ b → cond b [] (n ∷ up_to n ys) ≡ []
  by true same = refl
  by false differ = absurd (eqb-false n n differ refl)
up_to_all n (x ∷ xs) ys none = by (x == n) refl (up_to_all n xs ys (λ there. none (Contains-append_right (x ∷ []) xs n there))) where
  by : (b : Bool) → (x == n) ≡ b → up_to n (xs ++ n ∷ ys) ≡ xs → cond b [] (x ∷ up_to n (xs ++ n ∷ ys)) ≡ x ∷ xs
  by true same rest = absurd (none (subst (λ k. Contains (x ∷ xs) k) (eqb-true x n same) (Contains-get_or (x ∷ xs) 0 x (omega arith))))
  by false differ rest = ap (λ zs. x ∷ zs) rest

pub held_at : (uses : List (List ℕ)) (before xs : List ℕ) (u : ℕ) (rest : List ℕ) → IsHeld uses before (xs ++ u ∷ rest) → (y : ℕ) → Uses uses u y
    → Contains ((before ++ xs) ++ u ∷ []) y ⊎ All (Leads uses y) (u ∷ up_to y rest)
held_at uses before [] u rest held y use_of = elim (held.0 y use_of) [
  | inl there ↦ inl (subst (λ zs. Contains (zs ++ u ∷ []) y) (sym (no_more before)) there)
  | inr all ↦ inr all
]
  where
    no_more : (zs : List ℕ) → zs ++ [] ≡ zs
    no_more [] = refl
    no_more (z ∷ zs) = ap (λ ws. z ∷ ws) (no_more zs)
held_at uses before (x ∷ xs) u rest held y use_of = elim (held_at uses (before ++ x ∷ []) xs u rest held.1 y use_of) [
  | inl there ↦ inl (subst (λ zs. Contains (zs ++ u ∷ []) y) (append_assoc before (x ∷ []) xs) there)
  | inr all ↦ inr all
]

-- ---- from a root back to those that use what it reaches

module _ (uses : List (List ℕ)) (front : List ℕ) (root : ℕ) (behind : List ℕ) (held : IsHeld uses [] ((front ++ root ∷ []) ++ behind)) (apart : AreApart ((front ++ root ∷ []) ++ behind)) where
  abbrev fore : List ℕ
  fore = front ++ root ∷ []

  -- a number before it that uses one that is reached
  pub reach_user : (n u : ℕ) → Reaches uses fore root n → Uses uses u n → Contains fore u → Reaches uses fore root u
  reach_user n u reached use_of there = elim (Contains-append_cases reached.before (n ∷ reached.between) u (subst (λ xs. Contains xs u) reached.split there)) [
    | inl earlier ↦ from_before (split_at reached.before u earlier)
    | inr later ↦ from_behind (split_at (n ∷ reached.between) u later)
  ]
    where
      from_behind : Split (n ∷ reached.between) u → Reaches uses fore root u
      from_behind s = record {
        before = reached.before ++ s.before;
        between = s.after;
        split = reached.split ∙ ap (λ xs. reached.before ++ xs) s.is ∙ sym (append_assoc reached.before s.before (u ∷ s.after));
        all = All-right (Leads uses root) s.before (u ∷ s.after) (subst (λ xs. All (Leads uses root) xs) s.is reached.all);
      }

      from_before : Split reached.before u → Reaches uses fore root u
      from_before s = by (held_at uses [] s.before u (s.after ++ n ∷ (reached.between ++ behind)) (subst (λ xs. IsHeld uses [] xs) whole held) n use_of) where
        whole : (front ++ root ∷ []) ++ behind ≡ s.before ++ u ∷ (s.after ++ n ∷ (reached.between ++ behind))
        whole =
            ap (λ xs. xs ++ behind) (reached.split ∙ ap (λ xs. xs ++ n ∷ reached.between) s.is ∙ append_assoc s.before (u ∷ s.after) (n ∷ reached.between))
            ∙ append_assoc s.before (u ∷ (s.after ++ n ∷ reached.between)) behind ∙ ap (λ xs. s.before ++ u ∷ xs) (append_assoc s.after (n ∷ reached.between) behind)

        rest_apart : AreApart (s.before ++ u ∷ (s.after ++ n ∷ (reached.between ++ behind)))
        rest_apart = subst (λ xs. AreApart xs) whole apart

        twice : Contains (s.before ++ u ∷ []) n → ⊥
        twice there =
            apart_from (s.before ++ u ∷ s.after) n (reached.between ++ behind) (subst (λ xs. AreApart xs) (sym (append_assoc s.before (u ∷ s.after) (n ∷ (reached.between ++ behind)))) rest_apart)
            (subst (λ xs. Contains xs n) (append_assoc s.before (u ∷ []) s.after) (Contains-append_left (s.before ++ u ∷ []) s.after n there))

        none : Contains s.after n → ⊥
        none there = apart_from s.after n (reached.between ++ behind) (apart_rest s.before (u ∷ (s.after ++ n ∷ (reached.between ++ behind))) rest_apart).1 there

        reaches_n : Leads uses root n
        reaches_n = All-head (Leads uses root) n reached.between reached.all

        by : Contains (s.before ++ u ∷ []) n ⊎ All (Leads uses n) (u ∷ up_to n (s.after ++ n ∷ (reached.between ++ behind))) → Reaches uses fore root u
        by (inl there) = absurd (twice there)
        by (inr all) = record {
          before = s.before;
          between = s.after ++ n ∷ reached.between;
          split = reached.split ∙ ap (λ xs. xs ++ n ∷ reached.between) s.is ∙ append_assoc s.before (u ∷ s.after) (n ∷ reached.between);
          all =
              All-append (Leads uses root) (u ∷ s.after) (n ∷ reached.between)
              (All-weaker (Leads uses n) (Leads uses root) (λ k one. leads_on uses root n k reaches_n one) (u ∷ s.after)
              (subst (λ xs. All (Leads uses n) (u ∷ xs)) (up_to_all n s.after (reached.between ++ behind) none) all)) reached.all;
        }

  pub reach_root : Reaches uses fore root root
  reach_root = record { before = front; between = []; split = refl; all = All-cons (Leads uses root) root [] (leads_itself uses root) (All-nil (Leads uses root)) }

-- ---- labels

labelled_as : (labels : List (Option ℕ)) (n label : ℕ) → label_at labels n ≡ Some label → IsLabelled labels n
labelled_as labels n label is = ap is_some is

pub no_label : (labels : List (Option ℕ)) (n : ℕ) → label_at labels n ≡ None → IsLabelled labels n → ⊥
no_label labels n none is = absurd (cc (sym is ∙ ap is_some none))

some_label : (o : Option ℕ) → is_some o ≡ true → (label : ℕ) × (o ≡ Some label)
some_label None is = absurd (cc is)
some_label (Some label) is = (label, refl)

module _ (uses users : List (List ℕ)) (front : List ℕ) (root : ℕ) (behind : List ℕ) (first : List (Option ℕ)) (is_root : IsRoot uses users front root behind first) where
  finish : IsFinishOrder uses ((front ++ root ∷ []) ++ behind)
  finish = is_root.finish

  of_users : AreUsers uses users
  of_users = is_root.users

  sound : AreSound uses first
  sound = is_root.sound

  fresh : label_at first root ≡ None
  fresh = is_root.new

  past : All (IsLabelled first) behind
  past = is_root.past

  abbrev until : List ℕ
  until = front ++ root ∷ []

  known : root < length uses
  known = All-contains (λ number. number < length uses) ((front ++ root ∷ []) ++ behind) root finish.known (Contains-append_left until behind root (Contains-push front root))

  pub spread_first : (labels : List (Option ℕ)) → labels ≡ set first root (Some root) → IsSpreading uses users until root first labels (root ∷ [])
  spread_first labels put =
      let size : root < length first = subst (λ n. root < n) (sym sound.sized) known in record {
        sized = ap length put ∙ length-set first root (Some root) ∙ sound.sized;
        kept = λ number is. elim (cases_eq number root) [
          | inl same ↦ absurd (no_label first root fresh (subst (λ k. IsLabelled first k) same is))
          | inr differ ↦ ap (λ ls. label_at ls number) put ∙ get_or-set_other first root number (Some root) None differ
        ];
        root_labelled = here size;
        found = λ number is. elim (cases_eq number root) [
          | inl same ↦ inr (ap (λ k. label_at labels k) same ∙ here size, subst (λ k. Leads uses k root) (sym same) (leads_itself uses root), subst (λ k. Reaches uses until root k) (sym same) begin)
          | inr differ ↦ inl (other number differ is)
        ];
        open_new = λ number there. let same : root ≡ number = one_is root number there in
            (subst (λ k. k < length uses) same known, subst (λ k. Leads uses k root) same (leads_itself uses root), subst (λ k. Reaches uses until root k) same begin);
        closed = λ number is. elim (cases_eq number root) [
          | inl same ↦ inr (inl (subst (λ k. Contains (root ∷ []) k) (sym same) (Contains-push [] root)))
          | inr differ ↦ inl (other number differ is)
        ];
      }
    where
      begin : Reaches uses until root root
      begin = reach_root uses front root behind finish.held finish.apart

      here : root < length first → label_at labels root ≡ Some root
      here size = ap (λ ls. label_at ls root) put ∙ get_or-set_same first root (Some root) None size

      other : (number : ℕ) → number ≢ root → IsLabelled labels number → IsLabelled first number
      other number differ is = ap is_some (sym (ap (λ ls. label_at ls number) put ∙ get_or-set_other first root number (Some root) None differ)) ∙ is

  pub spread_more : (labels after : List (Option ℕ)) (stack rest more : List ℕ) (n : ℕ) → IsSpreading uses users until root first labels stack → stack ≡ rest ++ n ∷ []
      → AreSpread (used_by users n) root labels rest after more → IsSpreading uses users until root first after more
  spread_more labels after stack rest more n s popped spread = record {
    sized = spread.sized ∙ s.sized;
    kept = λ number is. spread.kept number (ap is_some (s.kept number is) ∙ is) ∙ s.kept number is;
    root_labelled = spread.kept root (ap is_some s.root_labelled) ∙ s.root_labelled;
    found = λ number is. elim (spread.new number is) [
      | inl old ↦ elim (s.found number old) [
        | inl before ↦ inl before
        | inr one ↦ inr (spread.kept number old ∙ one.0, one.1, one.2)
      ]
      | inr new ↦ either number new.0 (by_label number) new.1
    ];
    open_new = λ number there. elim (spread.stacked number there) [
      | inl old ↦ s.open_new number (subst (λ xs. Contains xs number) (sym popped) (Contains-append_left rest (n ∷ []) number old))
      | inr new ↦ elim (by_label number) [
        | inl before ↦ absurd (not_before number new.0 before)
        | inr fresh ↦ let one = user number new.1 fresh in (number_known number new.1, one.0, one.1)
      ]
    ];
    closed = λ number is. elim (spread.new number is) [
      | inl old ↦ elim (s.closed number old) [
        | inl before ↦ inl before
        | inr either ↦ inr (elim either [
          | inl there ↦ elim (Contains-push_cases rest n number (subst (λ xs. Contains xs number) popped there)) [
            | inl stacked ↦ inl (spread.stack_kept number stacked)
            | inr same ↦ inr (subst (λ k. All (IsLabelled after) (used_by users k)) same spread.here)
          ]
          | inr all ↦ inr (All-weaker (IsLabelled labels) (IsLabelled after) (λ k labelled. ap is_some (spread.kept k labelled) ∙ labelled) (used_by users number) all)
        ])
      ]
      | inr new ↦ inr (inl new.2)
    ];
  }
    where
      node : (n < length uses) × Leads uses n root × Reaches uses until root n
      node = s.open_new n (subst (λ xs. Contains xs n) (sym popped) (Contains-push rest n))

      by_label : (number : ℕ) → IsLabelled first number ⊎ (IsLabelled first number → ⊥)
      by_label number = of (label_at first number) refl where
        of : (o : Option ℕ) → label_at first number ≡ o → IsLabelled first number ⊎ (IsLabelled first number → ⊥)
        of None none = inr (no_label first number none)
        of (Some label) is = inl (labelled_as first number label is)

      number_known : (number : ℕ) → Contains (used_by users n) number → number < length uses
      number_known number there = user_known uses number n (of_users.only number n there) where
        user_known : (uses : List (List ℕ)) (user used : ℕ) → Uses uses user used → user < length uses
        user_known [] user used use_of = absurd (none_in used (subst (λ xs. Contains xs used) (past_end user) use_of)) where
          past_end : (user : ℕ) → used_by [] user ≡ []
          past_end zero = refl
          past_end (suc user) = refl
        user_known (list ∷ uses) zero used use_of = omega arith
        user_known (list ∷ uses) (suc user) used use_of = let less : user < length uses = user_known uses user used use_of in omega arith

      user : (number : ℕ) → Contains (used_by users n) number → (IsLabelled first number → ⊥) → Leads uses number root × Reaches uses until root number
      user number there new =
          let use_of = of_users.only number n there in (
            leads_on uses number n root (leads_by_use uses number n use_of) node.1,
            reach_user uses front root behind finish.held finish.apart n number node.2 use_of (in_order number (number_known number there) new),
          )
        where
          in_order : (number : ℕ) → number < length uses → (IsLabelled first number → ⊥) → Contains until number
          in_order number less new = elim (Contains-append_cases until behind number (finish.all number less)) [
            | inl there ↦ there
            | inr later ↦ absurd (new (All-contains (IsLabelled first) behind number past later))
          ]

      either : (number : ℕ) → label_at after number ≡ Some root → IsLabelled first number ⊎ (IsLabelled first number → ⊥) → Contains (used_by users n) number
          → IsLabelled first number ⊎ ((label_at after number ≡ Some root) × Leads uses number root × Reaches uses until root number)
      either number is (inl before) there = inl before
      either number is (inr new) there = let one = user number there new in inr (is, one.0, one.1)

      -- not_there label of before is the root
      not_before : (number : ℕ) → label_at after number ≡ Some root → IsLabelled first number → ⊥
      not_before number is before =
          let some = some_label (label_at first number) before in
          let same : label_at after number ≡ label_at first number = spread.kept number (ap is_some (s.kept number before) ∙ before) ∙ s.kept number before in
          let as_root : some.0 ≡ root = cc (some.1, same, is) in
          let was = sound.sound number some.0 some.1 in
          no_label first root fresh (subst (λ k. IsLabelled first k) as_root (labelled_as first some.0 some.0 was.2))

  pub spread_all : (labels : List (Option ℕ)) → IsSpreading uses users until root first labels [] → AreSound uses labels
  spread_all labels s = record {
    sized = s.sized;
    sound = λ number label is. elim (s.found number (labelled_as labels number label is)) [
      | inl before ↦
          let old : label_at first number ≡ Some label = sym (s.kept number before) ∙ is in
          let was = sound.sound number label old in
          (was.0, was.1, s.kept label (labelled_as first label label was.2) ∙ was.2)
      | inr new ↦
          let same : root ≡ label = cc (new.0, is) in
          subst (λ k. Leads uses number k × Leads uses k number × (label_at labels k ≡ Some k)) same (new.1, All-head (Leads uses root) number new.2.between new.2.all, s.root_labelled)
    ];
    whole = λ number other label is less one back. elim (s.found number (labelled_as labels number label is)) [
      | inl before ↦
          let old : label_at first number ≡ Some label = sym (s.kept number before) ∙ is in
          let was = sound.whole number other label old less one back in
          s.kept other (labelled_as first other label was) ∙ was
      | inr new ↦
          let same : root ≡ label = cc (new.0, is) in
          let to_root = leads_on uses other number root back new.1 in
          let from_root = leads_on uses root number other (All-head (Leads uses root) number new.2.between new.2.all) one in
          each_way other less to_root from_root ∙ ap Some same
    ];
  }
    where
      -- it gets the root's label, since none that the root leads to and that leads to it had one before
      old_none : (other : ℕ) → Leads uses other root → Leads uses root other → IsLabelled first other → ⊥
      old_none other there back before =
          let some = some_label (label_at first other) before in
          no_label first root fresh (labelled_as first root some.0 (sound.whole other root some.0 some.1 known there back))

      each_way : (other : ℕ) → other < length uses → Leads uses other root → Leads uses root other → label_at labels other ≡ Some root
      each_way other less there back = named other there back (leads_back uses (λ k. Leads uses root k → IsLabelled labels k) root (λ self. ap is_some s.root_labelled) step other there back) where
        step : (user used : ℕ) → Uses uses user used → Leads uses used root → (Leads uses root used → IsLabelled labels used) → Leads uses root user → IsLabelled labels user
        step user used use_of on before from_root =
            let reached : Leads uses root used = leads_on uses root user used from_root (leads_by_use uses user used use_of) in
            elim (s.closed used (before reached)) [
              | inl old ↦ absurd (old_none used on reached old)
              | inr either ↦ elim either [
                | inl there ↦ absurd (none_in used there)
                | inr all ↦ All-contains (IsLabelled labels) (used_by users used) user all (of_users.all user used use_of)
              ]
            ]

        named : (other : ℕ) → Leads uses other root → Leads uses root other → IsLabelled labels other → label_at labels other ≡ Some root
        named other there back is = elim (s.found other is) [
          | inl before ↦ absurd (old_none other there back before)
          | inr new ↦ new.0
        ]

  pub spread_past : (labels : List (Option ℕ)) → IsSpreading uses users until root first labels [] → All (IsLabelled labels) (root ∷ behind)
  spread_past labels s =
      All-cons (IsLabelled labels) root behind (ap is_some s.root_labelled)
      (All-weaker (IsLabelled first) (IsLabelled labels) (λ number is. ap is_some (s.kept number is) ∙ is) behind past)

-- ---- all labels

pub all_labels : (uses : List (List ℕ)) (order : List ℕ) (labels : List (Option ℕ)) → IsFinishOrder uses order → AreSound uses labels → All (IsLabelled labels) order → AreLabels uses labels
all_labels uses order labels finish sound all = record {
  sized = sound.sized;
  alike = λ one other less lesser same.
      let a = label one less in
      let b = sound.sound one a.0 a.1 in
      let c = sound.sound other a.0 (sym same ∙ a.1) in
      (leads_on uses one a.0 other b.0 c.1, leads_on uses other a.0 one c.0 b.1);
  whole = λ one other less lesser there back.
      let a = label one less in
      a.1 ∙ sym (sound.whole one other a.0 a.1 lesser there back);
}
  where
    label : (number : ℕ) → number < length uses → (label : ℕ) × (label_at labels number ≡ Some label)
    label number less = some_label (label_at labels number) (All-contains (IsLabelled labels) order number all (finish.all number less))

pub none_labelled : (uses : List (List ℕ)) (labels : List (Option ℕ)) → length labels ≡ length uses → ((number : ℕ) → label_at labels number ≡ None) → AreSound uses labels
none_labelled uses labels sized none = record {
  sized = sized;
  sound = λ number label is. absurd (cc (sym (none number) ∙ is));
  whole = λ number other label is less there back. absurd (cc (sym (none number) ∙ is));
}

-- ---- from the last one on

module _ (uses users : List (List ℕ)) (front : List ℕ) (n : ℕ) (behind : List ℕ) (first after : List (Option ℕ)) (is_root : IsRoot uses users front n behind first)
    (done : IsSpreading uses users (front ++ n ∷ []) n first after []) where
  labels_next : AreSound uses after × All (IsLabelled after) (n ∷ behind)
  labels_next = (spread_all uses users front n behind first is_root after done, spread_past uses users front n behind first is_root after done)

opened_last : (order : List ℕ) (left n : ℕ) → 0 < left → left ≤ length order → n ≡ get_or order (left - 1) n → drop (left - 1) order ≡ n ∷ drop left order
opened_last order left n some within at =
    let less : left - 1 < length order = omega (arith, some, within) in
    let next : suc (left - 1) ≡ left = omega (arith, some) in
    drop-cons order (left - 1) n less ∙ ap₂ (λ (x : ℕ) (xs : List ℕ). x ∷ xs) (sym at) (ap (λ k. drop k order) next)

pub labels_more : (uses users : List (List ℕ)) (order : List ℕ) (left n : ℕ) (first after : List (Option ℕ)) → 0 < left → left ≤ length order → n ≡ get_or order (left - 1) n → IsFinishOrder uses order
    → AreUsers uses users → AreSound uses first → label_at first n ≡ None → All (IsLabelled first) (drop left order)
    → ((front behind : List ℕ) → IsRoot uses users front n behind first → IsSpreading uses users (front ++ n ∷ []) n first after [])
    → AreSound uses after × All (IsLabelled after) (drop (left - 1) order)
labels_more uses users order left n first after some within at finish of_users sound fresh past spread =
    let opened : drop (left - 1) order ≡ n ∷ drop left order = opened_last order left n some within at in
    let whole : order ≡ (take (left - 1) order ++ n ∷ []) ++ drop left order =
    sym (take-append-drop (left - 1) order) ∙ ap (λ xs. take (left - 1) order ++ xs) opened ∙ sym (append_assoc (take (left - 1) order) (n ∷ []) (drop left order)) in
    let root : IsRoot uses users (take (left - 1) order) n (drop left order) first =
    record { finish = subst (λ xs. IsFinishOrder uses xs) whole finish; users = of_users; sound = sound; new = fresh; past = past } in
    let both = labels_next uses users (take (left - 1) order) n (drop left order) first after root (spread (take (left - 1) order) (drop left order) root) in
    (both.0, subst (λ xs. All (IsLabelled after) xs) (sym opened) both.1)

pub labels_end : (uses : List (List ℕ)) (order : List ℕ) (left : ℕ) (labels : List (Option ℕ)) → left ≤ 0 → IsFinishOrder uses order → AreSound uses labels → All (IsLabelled labels) (drop left order) → AreLabels uses labels
labels_end uses order left labels over finish sound past =
    let none : left ≡ 0 = omega (arith, over) in
    all_labels uses order labels finish sound (subst (λ k. All (IsLabelled labels) (drop k order)) none past)
