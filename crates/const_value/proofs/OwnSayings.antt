-- The names in a scoping unit's own statements are said there.
use Rattle.std.proofs.Common.{◌≡◌, ℕ, suc, ◌+◌, ◌-◌, ◌<◌, Bool, true, false, cond, List, [], ◌∷◌, ◌++◌, filter, map, Option, Some, None, option_map, inl, inr, refl, sym, ap, subst, ◌∙◌, arith}
use Rattle.std.specs.Prelude.{◌&&◌, ◌||◌, not}
use Rattle.std.specs.List.{flat_map, last_or, list_any, range_with_len}
use Rattle.std.specs.Option.{option_map_or}
use Rattle.std.specs.Str.{bytes_eq}
use Rattle.std.proofs.lemmas.Bool.Decides.{nat_tests}
use Rattle.std.proofs.lemmas.List.Folds.{list_any-append}
use Rattle.ftn_base.specs.Accessible.{once}
use Rattle.ftn_tree.specs.declared.form.Form.{Form, out-Form}
use Rattle.ftn_tree.specs.declared.form.Form.TheOpen.{Form-F}
use Rattle.ftn_tree.specs.declared.mention.Mention.{Mention}
use Rattle.ftn_tree.specs.declared.mention.Role.TheVariants as role
use Rattle.ftn_tree.specs.declared.parts.TypeSpec.{TypeSpec}
use Rattle.ftn_tree.specs.declared.table.Extent.{Extent}
use Rattle.ftn_tree.specs.declared.unit.FileTree.{FileTree}
use Rattle.ftn_tree.specs.DeclaredEntities.{is_said, names_after, own_mentions}
use Rattle.ftn_tree.specs.Extents.{covers, form_at, is_some_extent, layer_at, same_extent, scope_of, scoping}
use Rattle.ftn_tree.specs.Meanings.{names_in}
use Rattle.ftn_tree.specs.Mentions as mentioned
use Rattle.ftn_tree.specs.Mentions.{answer_mentions, function_mention, in_prefix, mentions_of}
use Rattle.ftn_tree.specs.PartMentions.{all_named}
use Rattle.ftn_tree.specs.NameFaults.{said_of}
use Rattle.ftn_tree.specs.Projects.{AreTrees}
use Rattle.ftn_tree.specs.Sayings.{Saying, mentions_at, said_at, same_name, saying, sayings}
use Rattle.ftn_tree.specs.Scopes.{all_statements, name_at, own_statements}
use Rattle.decl_table.specs.steps.Seen.{is_among}
use Rattle.decl_table.proofs.Arounds.{ordered_units, split_at}
use Rattle.decl_table.proofs.Chains.{chain_is}
use Rattle.decl_table.proofs.Hosts.{after_it}
use Rattle.decl_table.proofs.Order.{Ordered, statements_in}
use Rattle.const_value.proofs.Members.{any_flat, any_map, or_cases, or_left, or_right}
use Rattle.const_value.proofs.NumberTurns.{none_said}
use Rattle.const_value.proofs.RealKeys.{IsUnit}

-- ---- lists

pub any_weaker : {A : Type 0} (p q : A → Bool) → ((x : A) → p x ≡ true → q x ≡ true) → (xs : List A) → list_any p xs ≡ true → list_any q xs ≡ true
any_weaker p q weaker [] is = is
any_weaker p q weaker (x ∷ xs) is = elim (or_cases (p x) (list_any p xs) is) [
  | inl here ↦ or_left (q x) (list_any q xs) (weaker x here)
  | inr more ↦ or_right (q x) (list_any q xs) (any_weaker p q weaker xs more)
]

pub passed_any : {A : Type 0} (test p q : A → Bool) → ((x : A) → test x ≡ true → p x ≡ true → q x ≡ true) → (xs : List A) → list_any p (filter test xs) ≡ true → list_any q xs ≡ true
passed_any test p q both [] is = is
passed_any {A} test p q both (x ∷ xs) is = by (test x) refl is (passed_any test p q both xs) where
  by : (b : Bool) → test x ≡ b → list_any p (cond b (x ∷ filter test xs) (filter test xs)) ≡ true → (list_any p (filter test xs) ≡ true → list_any q xs ≡ true) → (q x || list_any q xs) ≡ true
  by false fails is rest = or_right (q x) (list_any q xs) (rest is)
  by true passes is rest = elim (or_cases (p x) (list_any p (filter test xs)) is) [
    | inl here ↦ or_left (q x) (list_any q xs) (both x passes here)
    | inr more ↦ or_right (q x) (list_any q xs) (rest more)
  ]

module _ (files : List FileTree) (e : Extent) where
  -- what holds of a mention in an own statement holds of a saying
  pub own_said : (q : Saying → Bool) → list_any (λ statement. list_any (λ m. q (saying files e.file m)) (mentions_at files e.file statement)) (own_statements files e) ≡ true → list_any q (sayings files e) ≡ true
  own_said q some =
      sym (any_map q (saying files e.file) (flat_map (said_at files e) (all_statements e)))
      ∙ any_flat (λ m. q (saying files e.file m)) (said_at files e) (all_statements e)
      (passed_any (λ statement. is_some_extent e (scope_of files e.file statement)) (λ statement. list_any (λ m. q (saying files e.file m)) (mentions_at files e.file statement))
      (λ statement. list_any (λ m. q (saying files e.file m)) (said_at files e statement)) here (all_statements e) some)
    where
      here : (statement : ℕ) → is_some_extent e (scope_of files e.file statement) ≡ true → list_any (λ m. q (saying files e.file m)) (mentions_at files e.file statement) ≡ true
          → list_any (λ m. q (saying files e.file m)) (said_at files e statement) ≡ true
      here statement own is = rw own is

  -- a name that is said is one of the names
  pub name_among : (name : List ℕ) → list_any (same_name name) (sayings files e) ≡ true → is_among name (names_after [] (sayings files e)) ≡ true
  name_among name some = by (is_among name (names_after [] (sayings files e))) refl where
    none : (all : List Saying) → list_any (same_name name) all ≡ true → filter (same_name name) all ≡ [] → ⊥
    none [] is empty = cc is
    none (s ∷ all) is empty = at (same_name name s) is empty (none all) where
      at : (b : Bool) → (b || list_any (same_name name) all) ≡ true → cond b (s ∷ filter (same_name name) all) (filter (same_name name) all) ≡ []
          → (list_any (same_name name) all ≡ true → filter (same_name name) all ≡ [] → ⊥) → ⊥
      at true is empty rest = cc empty
      at false is empty rest = rest is empty

    by : (b : Bool) → is_among name (names_after [] (sayings files e)) ≡ b → is_among name (names_after [] (sayings files e)) ≡ true
    by true is = is
    by false is = absurd (none (sayings files e) some (none_said [] (sayings files e) name refl is))

  -- what is said of a name of some saying
  pub said_any : (what : Saying → Bool) (name : List ℕ) → list_any (λ s. same_name name s && what s) (sayings files e) ≡ true → is_said what (said_of files e name) ≡ true
  said_any what name some = each (sayings files e) some where
    each : (all : List Saying) → list_any (λ s. same_name name s && what s) all ≡ true → list_any what (filter (same_name name) all) ≡ true
    each [] is = is
    each (s ∷ all) is = by (same_name name s) is (each all) where
      by : (b : Bool) → ((b && what s) || list_any (λ s. same_name name s && what s) all) ≡ true → (list_any (λ s. same_name name s && what s) all ≡ true → list_any what (filter (same_name name) all) ≡ true)
          → list_any what (cond b (s ∷ filter (same_name name) all) (filter (same_name name) all)) ≡ true
      by false is rest = rest is
      by true is rest = elim (or_cases (what s) (list_any (λ s. same_name name s && what s) all) is) [
        | inl here ↦ or_left (what s) (list_any what (filter (same_name name) all)) here
        | inr more ↦ or_right (what s) (list_any what (filter (same_name name) all)) (rest more)
      ]

  -- ---- names of own mentions

  pub mentioned_among : (name : List ℕ) → list_any (λ other. bytes_eq other name) (names_in files e) ≡ true → is_among name (names_after [] (sayings files e)) ≡ true
  mentioned_among name some =
      name_among name
      (own_said (same_name name)
      (flat_any (own_statements files e) (any_map (λ other. bytes_eq other name) (λ (m : Mention). name_at files e.file m.token) (own_mentions files e) ∙ once_any (map (λ (m : Mention). name_at files e.file m.token) (own_mentions files e)) some)))
    where
      once_any : (names : List (List ℕ)) → list_any (λ other. bytes_eq other name) (once bytes_eq names) ≡ true → list_any (λ other. bytes_eq other name) names ≡ true
      once_any [] is = is
      once_any (x ∷ names) is = elim (or_cases (bytes_eq x name) (list_any (λ other. bytes_eq other name) (filter (λ y. not (bytes_eq y x)) (once bytes_eq names))) is) [
        | inl here ↦ or_left (bytes_eq x name) (list_any (λ other. bytes_eq other name) names) here
        | inr more ↦ or_right (bytes_eq x name) (list_any (λ other. bytes_eq other name) names)
            (once_any names (passed_any (λ y. not (bytes_eq y x)) (λ other. bytes_eq other name) (λ other. bytes_eq other name) (λ y kept is. is) (once bytes_eq names) more))
      ]

      flat_any : (statements : List ℕ) → list_any (λ (m : Mention). bytes_eq (name_at files e.file m.token) name) (flat_map (mentions_at files e.file) statements) ≡ true
          → list_any (λ statement. list_any (λ m. same_name name (saying files e.file m)) (mentions_at files e.file statement)) statements ≡ true
      flat_any [] is = is
      flat_any (statement ∷ statements) is =
          elim (or_cases (list_any (λ (m : Mention). bytes_eq (name_at files e.file m.token) name) (mentions_at files e.file statement)) (list_any (λ (m : Mention). bytes_eq (name_at files e.file m.token) name) (flat_map (mentions_at files e.file) statements))
          (sym (list_any-append (λ (m : Mention). bytes_eq (name_at files e.file m.token) name) (mentions_at files e.file statement) (flat_map (mentions_at files e.file) statements)) ∙ is)) [
            | inl here ↦ or_left (list_any (λ m. same_name name (saying files e.file m)) (mentions_at files e.file statement)) (list_any (λ statement. list_any (λ m. same_name name (saying files e.file m)) (mentions_at files e.file statement)) statements) here
            | inr more ↦ or_right (list_any (λ m. same_name name (saying files e.file m)) (mentions_at files e.file statement)) (list_any (λ statement. list_any (λ m. same_name name (saying files e.file m)) (mentions_at files e.file statement)) statements) (flat_any statements more)
          ]

  -- ---- its opening

  module _ (are : AreTrees files) (there : IsUnit files e) where
    last_end : (xs : List Extent) (o : Option Extent) → last_or o (xs ++ e ∷ []) ≡ Some e
    last_end [] o = refl
    last_end (x ∷ xs) o = last_end xs (Some x)

    itself : scope_of files e.file e.opening ≡ Some e
    itself =
        let (a, b, split, long) = split_at (scoping files) there.0 e there.1 in
        ap (λ es. last_or None (filter (covers e.file e.opening) es)) split
        ∙ ap (last_or None) (chain_is (λ file. statements_in file files) a e b (subst (Ordered (λ file. statements_in file files)) split (ordered_units files are)))
        ∙ last_end (filter (covers e.file e.opening) a) None

    same_self : same_extent e e ≡ true
    same_self = grind (arith, nat_tests)

    -- what its opening says is said in it
    pub opening_said : (q : Saying → Bool) → list_any (λ m. q (saying files e.file m)) (mentions_at files e.file e.opening) ≡ true → list_any q (sayings files e) ≡ true
    opening_said q some =
        own_said q
        (subst (λ n. list_any (λ statement. list_any (λ m. q (saying files e.file m)) (mentions_at files e.file statement)) (filter (λ statement. is_some_extent e (scope_of files e.file statement)) (range_with_len e.opening n)) ≡ true)
        (sym long)
        (by (is_some_extent e (scope_of files e.file e.opening)) (ap (is_some_extent e) itself ∙ same_self)))
      where
        order : e.opening < e.ending
        order =
            let (a, b, split, size) = split_at (scoping files) there.0 e there.1 in
            (after_it (λ file. statements_in file files) a e b (subst (Ordered (λ file. statements_in file files)) split (ordered_units files are))).0.0

        long : e.ending + 1 - e.opening ≡ suc (e.ending - e.opening)
        long = omega (arith, order)

        by : (b : Bool) → b ≡ true
            → list_any (λ statement. list_any (λ m. q (saying files e.file m)) (mentions_at files e.file statement))
            (cond b (e.opening ∷ filter (λ statement. is_some_extent e (scope_of files e.file statement)) (range_with_len (e.opening + 1) (e.ending - e.opening)))
            (filter (λ statement. is_some_extent e (scope_of files e.file statement)) (range_with_len (e.opening + 1) (e.ending - e.opening)))) ≡ true
        by true is = or_left (list_any (λ m. q (saying files e.file m)) (mentions_at files e.file e.opening)) _ some
        by false is = absurd (cc is)

    -- a function's opening says its name; without RESULT it is that of its result
    pub function_said : (ty : Option TypeSpec) (name : ℕ) (dummies : List ℕ) (result : Option ℕ) → layer_at files e.file e.opening ≡ Some (Form-F.Function ty name dummies result) → (q : Saying → Bool)
        → q (saying files e.file (function_mention ty name result)) ≡ true → list_any q (sayings files e) ≡ true
    function_said ty name dummies result is q passes = opening_said q (by (form_at files e.file e.opening) is) where
      by : (form : Option Form) → option_map out-Form form ≡ Some (Form-F.Function ty name dummies result) → list_any (λ m. q (saying files e.file m)) (option_map_or mentions_of form []) ≡ true
      by None none = absurd (cc none)
      by (Some form) some =
          let layer : out-Form form ≡ Form-F.Function ty name dummies result = cc some in
          ap (λ l. list_any (λ m. q (saying files e.file m)) (mentioned.mentions_at l)) layer
          ∙ list_any-append (λ m. q (saying files e.file m)) (in_prefix ty) (function_mention ty name result ∷ (all_named role.Dummy dummies ++ answer_mentions ty result))
          ∙ or_right (list_any (λ m. q (saying files e.file m)) (in_prefix ty)) (list_any (λ m. q (saying files e.file m)) (function_mention ty name result ∷ (all_named role.Dummy dummies ++ answer_mentions ty result)))
          (or_left (q (saying files e.file (function_mention ty name result))) (list_any (λ m. q (saying files e.file m)) (all_named role.Dummy dummies ++ answer_mentions ty result)) passes)
