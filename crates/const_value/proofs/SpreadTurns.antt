-- Labels that the numbers of a list get, one after the other.
use Rattle.std.proofs.Common.{◌≡◌, ◌≢◌, ℕ, zero, suc, ◌+◌, ◌<◌, ◌≤◌, true, false, cond, List, [], ◌∷◌, ◌++◌, length, get_or, set, take, take_all, All, Contains, Option, Some, None, inl, inr, refl, sym, subst, ap, ◌∙◌, arith, length-set}
use Rattle.std.specs.Option.{is_some}
use Rattle.std.proofs.lemmas.Bool.{cases_eq}
use Rattle.std.proofs.lemmas.List.{get_or-set_other, get_or-set_same, take_more}
use Rattle.std.proofs.lemmas.List.Elements.{All-contains, All-more, All-nil, All-weaker, Contains-append_left, Contains-get_or, Contains-push, Contains-push_cases}
use Rattle.ftn_base.specs.ModuleUses.{used_by}
use Rattle.const_value.specs.steps.Labelling.{label_at, IsLabelled, AreSpread, unlabelled}

front_more : (list : List ℕ) (i number : ℕ) → i < length list → Contains (take i list) number → Contains (take (i + 1) list) number
front_more list i number lt c = subst (λ l. Contains l number) (sym (take_more list i 0 lt)) (Contains-append_left (take i list) (get_or list i 0 ∷ []) number c)

front_last : (list : List ℕ) (i : ℕ) → i < length list → Contains (take (i + 1) list) (get_or list i 0)
front_last list i lt = subst (λ l. Contains l (get_or list i 0)) (sym (take_more list i 0 lt)) (Contains-push (take i list) (get_or list i 0))

pub spread_none : (list : List ℕ) (label : ℕ) (labels : List (Option ℕ)) (stack : List ℕ) → AreSpread (take 0 list) label labels stack labels stack
spread_none list label labels stack = record {
  sized = refl;
  kept = λ number is. refl;
  here = All-nil (IsLabelled labels);
  stack_kept = λ number c. c;
  new = λ number is. inl is;
  stacked = λ number c. inl c;
}

pub spread_done : (list : List ℕ) (i label : ℕ) (labels : List (Option ℕ)) (stack : List ℕ) (after : List (Option ℕ)) (more : List ℕ) → length list ≤ i
    → AreSpread (take i list) label labels stack after more → AreSpread list label labels stack after more
spread_done list i label labels stack after more le s = subst (λ l. AreSpread l label labels stack after more) (take_all i list le) s

-- ---- how many have no label

pub one_less : (labels : List (Option ℕ)) (n label : ℕ) → n < length labels → label_at labels n ≡ None → unlabelled (set labels n (Some label)) + 1 ≡ unlabelled labels
one_less [] n label less none = absurd (omega arith)
one_less (o ∷ labels) zero label less none = let one : ◌≡◌ {A = ℕ} (cond (is_some o) 0 1) 1 = ap (λ (p : Option ℕ). cond {A = ℕ} (is_some p) 0 1) none in omega (arith, one)
one_less (o ∷ labels) (suc n) label less none = let rest : unlabelled (set labels n (Some label)) + 1 ≡ unlabelled labels = one_less labels n label (omega arith) none in omega (arith, rest)

module _ (list : List ℕ) (i label : ℕ) (labels : List (Option ℕ)) (stack : List ℕ) (mid : List (Option ℕ)) (mid_stack : List ℕ) (s : AreSpread (take i list) label labels stack mid mid_stack)
    (lt : i < length list) where
  pub spread_passed : is_some (label_at mid (get_or list i 0)) ≡ true → AreSpread (take (i + 1) list) label labels stack mid mid_stack
  spread_passed here = record {
    sized = s.sized;
    kept = s.kept;
    here = All-more (IsLabelled mid) list i 0 lt s.here here;
    stack_kept = s.stack_kept;
    new = λ number is. elim (s.new number is) [
      | inl old ↦ inl old
      | inr new ↦ inr (new.0, front_more list i number lt new.1, new.2)
    ];
    stacked = λ number c. elim (s.stacked number c) [
      | inl old ↦ inl old
      | inr new ↦ inr (new.0, front_more list i number lt new.1)
    ];
  }

  pub spread_one : (after : List (Option ℕ)) (more : List ℕ) → get_or list i 0 < length mid → label_at mid (get_or list i 0) ≡ None → after ≡ set mid (get_or list i 0) (Some label)
      → more ≡ mid_stack ++ get_or list i 0 ∷ [] → AreSpread (take (i + 1) list) label labels stack after more
  spread_one after more known none put pushed = record {
    sized = ap length put ∙ length-set mid x (Some label) ∙ s.sized;
    kept = λ number is. other number (not_x number (ap is_some (s.kept number is) ∙ is)) ∙ s.kept number is;
    here = All-more (IsLabelled after) list i 0 lt (All-weaker (IsLabelled mid) (IsLabelled after) (λ number is. stays number is) (take i list) s.here) (ap is_some here);
    stack_kept = λ number c. subst (λ l. Contains l number) (sym pushed) (Contains-append_left mid_stack (x ∷ []) number (s.stack_kept number c));
    new = λ number is. elim (cases_eq number x) [
      | inl same ↦ inr (
        ap (label_at after) same ∙ here,
        subst (λ k. Contains (take (i + 1) list) k) (sym same) (front_last list i lt),
        subst (λ k. Contains more k) (sym same) top,
      )
      | inr differ ↦ elim (s.new number (ap is_some (sym (other number differ)) ∙ is)) [
        | inl old ↦ inl old
        | inr new ↦ inr (other number differ ∙ new.0, front_more list i number lt new.1, subst (λ l. Contains l number) (sym pushed) (Contains-append_left mid_stack (x ∷ []) number new.2))
      ]
    ];
    stacked = λ number c. elim (Contains-push_cases mid_stack x number (subst (λ l. Contains l number) pushed c)) [
      | inl old ↦ elim (s.stacked number old) [
        | inl before ↦ inl before
        | inr new ↦ inr (stays_as number new.0, front_more list i number lt new.1)
      ]
      | inr same ↦ inr (ap (label_at after) (sym same) ∙ here, subst (λ k. Contains (take (i + 1) list) k) same (front_last list i lt))
    ];
  }
    where
      x : ℕ
      x = get_or list i 0

      here : label_at after x ≡ Some label
      here = ap (λ ls. label_at ls x) put ∙ get_or-set_same mid x (Some label) None known

      top : Contains more x
      top = subst (λ l. Contains l x) (sym pushed) (Contains-push mid_stack x)

      other : (number : ℕ) → number ≢ x → label_at after number ≡ label_at mid number
      other number differ = ap (λ ls. label_at ls number) put ∙ get_or-set_other mid x number (Some label) None differ

      not_x : (number : ℕ) → is_some (label_at mid number) ≡ true → number ≢ x
      not_x number is same = absurd (cc (sym is ∙ ap is_some (ap (label_at mid) same ∙ none)))

      stays : (number : ℕ) → IsLabelled mid number → IsLabelled after number
      stays number is = ap is_some (other number (not_x number is)) ∙ is

      stays_as : (number : ℕ) → label_at mid number ≡ Some label → label_at after number ≡ Some label
      stays_as number is = other number (not_x number (ap is_some is)) ∙ is

-- ---- the labels of those that are stacked

pub stack_known : (count label n : ℕ) (users : List (List ℕ)) (list : List ℕ) (labels : List (Option ℕ)) (stack rest : List ℕ) (after : List (Option ℕ)) (more : List ℕ)
    → All (All (λ user. user < count)) users → count ≡ length users → All (λ number. number < count) stack → stack ≡ rest ++ n ∷ [] → list ≡ used_by users n
    → AreSpread list label labels rest after more → All (λ number. number < count) more
stack_known count label n users list labels stack rest after more each sized known popped is spread k d less = one (get_or more k d) (Contains-get_or more k d less) where
  all : All (λ number. number < count) (rest ++ n ∷ [])
  all = subst (λ xs. All (λ number. number < count) xs) popped known

  below : n < length users
  below = subst (λ j. n < j) sized (All-contains (λ number. number < count) (rest ++ n ∷ []) n all (Contains-push rest n))

  one : (number : ℕ) → Contains more number → number < count
  one number there = elim (spread.stacked number there) [
    | inl old ↦ All-contains (λ number. number < count) (rest ++ n ∷ []) number all (Contains-append_left rest (n ∷ []) number old)
    | inr new ↦ All-contains (λ number. number < count) (used_by users n) number (each n [] below) (subst (λ xs. Contains xs number) is new.1)
  ]

-- ---- whether one has a label

pub unlabelled_here : (o : Option ℕ) → is_some o ≡ false → o ≡ None
unlabelled_here None is = refl
unlabelled_here (Some label) is = absurd (cc is)
