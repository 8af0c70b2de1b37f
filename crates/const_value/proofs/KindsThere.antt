-- The entities of names have the kinds that are said of them.
use Rattle.std.proofs.Common.{◌≡◌, ℕ, ◌+◌, Bool, true, false, cond, List, [], ◌∷◌, filter, map, Option, Some, None, slice_get, option_map, ◌⊎◌, inl, inr, refl, sym, ap, ap₂, subst, ◌∙◌}
use Rattle.std.specs.Prelude.{◌&&◌, ◌||◌, not}
use Rattle.std.specs.List.{flat_map, list_any, position}
use Rattle.std.specs.Option.{is_some, option_and_then, option_map_or, unwrap_or}
use Rattle.std.specs.Str.{bytes_eq}
use Rattle.std.specs.Cmp.Lexicographic.{nat_list_eq_equiv}
use Rattle.std.proofs.lemmas.Bool.{and_parts}
use Rattle.std.proofs.lemmas.List.Folds.{list_any-append}
use Rattle.ftn_base.specs.Accessible.{once}
use Rattle.ftn_tree.specs.declared.mention.Mention.{Mention}
use Rattle.ftn_tree.specs.declared.mention.Role.TheVariants as role
use Rattle.ftn_tree.specs.declared.table.EntityKind.{EntityKind}
use Rattle.ftn_tree.specs.declared.table.EntityKind.TheVariants as kinds
use Rattle.ftn_tree.specs.declared.table.Extent.{Extent}
use Rattle.ftn_tree.specs.declared.unit.FileTree.{FileTree}
use Rattle.ftn_tree.specs.Bindings.{bound_entities, is_entity_of, is_letter_typed}
use Rattle.ftn_tree.specs.DeclaredEntities.{has_result_at, has_type, is_referenced, is_said, is_typed_alone, kind_said, names_after, own_mentions}
use Rattle.ftn_tree.specs.Extents.{host_of, is_body, is_some_extent, layer_at, scope_of}
use Rattle.ftn_tree.specs.KeyKinds.{Datum, is_constant, is_dummy}
use Rattle.ftn_tree.specs.Meanings as spec
use Rattle.ftn_tree.specs.Meanings.{Key, own, unit, names_in}
use Rattle.ftn_tree.specs.NameFaults.{said_of}
use Rattle.ftn_tree.specs.Projects.{AreTrees}
use Rattle.ftn_tree.specs.Roles.{mention, same_role, says}
use Rattle.ftn_tree.specs.Sayings.{Saying, answer, body, declares, dummy, external, inner_at, inner_mention, inner_role, inside, intrinsic, mentions_at, opened_at, outside, parameter, said_at, same_name, saying, sayings}
use Rattle.ftn_tree.specs.Scopes.{all_statements, name_at, name_token, own_statements}
use Rattle.decl_table.specs.steps.Seen.{is_among}
use Rattle.const_value.specs.steps.Gathered.{own_entity}
use Rattle.const_value.specs.steps.Held.{HasKind, HaveKinds, own_kind}
use Rattle.const_value.specs.steps.Names.{all_data, number_from}
use Rattle.const_value.specs.steps.Projects.{kind_in as kind_field}
use Rattle.const_value.specs.steps.Shaping.{has_type_some, is_constant_some, is_dummy_some}
use Rattle.const_value.proofs.DataNumbers.{datum_owner}
use Rattle.const_value.proofs.EntityFits.{first_entity}
use Rattle.const_value.proofs.EntityKinds.{IsOne, entities_one, letter_kind}
use Rattle.const_value.proofs.EntityThere.{entity_there, real_there}
use Rattle.const_value.proofs.Members.{any_flat, any_map, each_at, or_cases, or_left, or_right}
use Rattle.const_value.proofs.NamedPlaces.{same_bytes}
use Rattle.const_value.proofs.OwnSayings.{any_weaker}
use Rattle.const_value.proofs.UnitWriting.{number_is}
use Rattle.const_value.proofs.RealKeys.{IsUnit, is_named_in, kind_in}

-- ---- the kind that is said

some_dummy : (k other : EntityKind) (b : Bool) → is_dummy k ≡ b → Some k ≡ Some other → is_dummy other ≡ b
some_dummy k other b is same = let equal : k ≡ other = cc same in subst (λ x. is_dummy x ≡ b) equal is

dummy_at : (d a h i g l o p c : Bool) (k : EntityKind)
    → cond d (Some kinds.Dummy) (cond a (cond h (Some kinds.Answer) None) (cond i None (cond g (Some kinds.Generic) (cond l (Some kinds.Construct) (cond o None (cond p (Some kinds.Constant) (cond c (Some kinds.Variable) None)))))))
    ≡ Some k → is_dummy k ≡ d
dummy_at true a h i g l o p c k is = some_dummy kinds.Dummy k true refl is
dummy_at false true true i g l o p c k is = some_dummy kinds.Answer k false refl is
dummy_at false true false i g l o p c k is = absurd (cc is)
dummy_at false false h true g l o p c k is = absurd (cc is)
dummy_at false false h false true l o p c k is = some_dummy kinds.Generic k false refl is
dummy_at false false h false false true o p c k is = some_dummy kinds.Construct k false refl is
dummy_at false false h false false false true p c k is = absurd (cc is)
dummy_at false false h false false false false true c k is = some_dummy kinds.Constant k false refl is
dummy_at false false h false false false false false true k is = some_dummy kinds.Variable k false refl is
dummy_at false false h false false false false false false k is = absurd (cc is)

dummy_kind : (has referenced : Bool) (said : List Saying) (k : EntityKind) → kind_said has referenced said ≡ Some k → is_dummy k ≡ is_said dummy said
dummy_kind has referenced said k is =
    dummy_at (is_said dummy said) (is_said answer said) has (is_said (λ s. says role.Inner s.said) said) (is_said (λ s. says role.Generic s.said) said) (is_said (λ s. says role.Label s.said) said)
    (is_said outside said || (referenced && is_typed_alone said)) (is_said parameter said) (is_said declares said) k is

no_dummy : (has referenced : Bool) (said : List Saying) → kind_said has referenced said ≡ None → is_said dummy said ≡ false
no_dummy has referenced said none = by (is_said dummy said) refl where
  by : (b : Bool) → is_said dummy said ≡ b → is_said dummy said ≡ false
  by false is = is
  by true is = let some : kind_said has referenced said ≡ Some kinds.Dummy = rw is refl in absurd (cc (none, some))

-- ---- a name that is said and that its letter types stands in an own statement

left_false : (a b : Bool) → (a || b) ≡ false → a ≡ false
left_false true b is = absurd (cc is)
left_false false b is = refl

right_false : (a b : Bool) → (a || b) ≡ false → b ≡ false
right_false true b is = absurd (cc is)
right_false false b is = is

known_not : (found : Option Key) → spec.is_nothing (spec.known found) ≡ false
known_not None = refl
known_not (Some key) = refl

if_not : (b : Bool) (first other : spec.Meaning) → spec.is_nothing first ≡ false → spec.is_nothing other ≡ false → spec.is_nothing (cond b first other) ≡ false
if_not true first other is there = is
if_not false first other is there = there

-- a procedure inside or an interface body is said
abbrev is_opening : Saying → Bool
is_opening s = says role.Inner s.said || body s

inner_opens : (name : List ℕ) (token : ℕ) (of_body : Bool) → is_opening (record { name = name; said = mention token (inner_role of_body) }) ≡ true
unfolding same_role
inner_opens name token true = refl
inner_opens name token false = refl

module _ (files : List FileTree) (e : Extent) (name : List ℕ) where
  -- what nothing declares has no openings
  no_opening : spec.is_nothing (spec.declared_in files e name) ≡ true → is_said is_opening (said_of files e name) ≡ false
  no_opening none = at (is_said dummy (said_of files e name)) (is_said answer (said_of files e name)) (is_said (λ s. says role.Inner s.said) (said_of files e name)) (is_said inside (said_of files e name)) (is_said outside (said_of files e name))
      refl refl refl refl refl where
        both : (said : List Saying) → is_said (λ s. says role.Inner s.said) said ≡ false → is_said outside said ≡ false → is_said is_opening said ≡ false
        both [] inner out = refl
        both (s ∷ said) inner out =
            ap₂ (λ a b. a || b)
            (ap₂ (λ a b. a || b) (left_false (says role.Inner s.said) (is_said (λ s. says role.Inner s.said) said) inner)
            (right_false (external s || intrinsic s) (body s) (left_false (outside s) (is_said outside said) out)))
            (both said (right_false (says role.Inner s.said) (is_said (λ s. says role.Inner s.said) said) inner) (right_false (outside s) (is_said outside said) out))

        result_not : spec.is_nothing (spec.result_meaning files e name) ≡ false
        result_not =
            if_not (has_result_at (layer_at files e.file e.opening)) (spec.one (own e name)) _ refl
            (if_not (is_body files e) _ (spec.one (unit e)) (known_not (spec.external_of files name)) refl)

        at : (d a i n o : Bool) → is_said dummy (said_of files e name) ≡ d → is_said answer (said_of files e name) ≡ a → is_said (λ s. says role.Inner s.said) (said_of files e name) ≡ i → is_said inside (said_of files e name) ≡ n
            → is_said outside (said_of files e name) ≡ o → is_said is_opening (said_of files e name) ≡ false
        at true a i n o d_is a_is i_is n_is o_is = let told : spec.is_nothing (spec.declared_in files e name) ≡ false = rw d_is refl in absurd (cc (none, told))
        at false true i n o d_is a_is i_is n_is o_is = let told : spec.is_nothing (spec.declared_in files e name) ≡ false = rw (d_is, a_is) result_not in absurd (cc (none, told))
        at false false true n o d_is a_is i_is n_is o_is =
            let told : spec.is_nothing (spec.declared_in files e name) ≡ false = rw (d_is, a_is, i_is) (known_not (option_map unit (spec.inner_of files e name))) in absurd (cc (none, told))
        at false false false true o d_is a_is i_is n_is o_is = let told : spec.is_nothing (spec.declared_in files e name) ≡ false = rw (d_is, a_is, i_is, n_is) refl in absurd (cc (none, told))
        at false false false false true d_is a_is i_is n_is o_is =
            let told : spec.is_nothing (spec.declared_in files e name) ≡ false =
            rw (d_is, a_is, i_is, n_is, o_is) (if_not (is_said external (said_of files e name) || is_said body (said_of files e name)) _ _ (known_not (spec.external_of files name)) (known_not (spec.intrinsic_of name))) in
            absurd (cc (none, told))
        at false false false false false d_is a_is i_is n_is o_is = both (said_of files e name) i_is o_is

  -- one of the names is said
  among_said : (seen : List (List ℕ)) (all : List Saying) → is_among name (names_after seen all) ≡ true → list_any (same_name name) all ≡ true
  among_said seen [] is = absurd (cc is)
  among_said seen (s ∷ all) is = by (is_among s.name seen) is (among_said seen all) (among_said (s.name ∷ seen) all) where
    by : (b : Bool) → is_among name (cond b (names_after seen all) (s.name ∷ names_after (s.name ∷ seen) all)) ≡ true → (is_among name (names_after seen all) ≡ true → list_any (same_name name) all ≡ true)
        → (is_among name (names_after (s.name ∷ seen) all) ≡ true → list_any (same_name name) all ≡ true) → (same_name name s || list_any (same_name name) all) ≡ true
    by true is old new = or_right (same_name name s) (list_any (same_name name) all) (old is)
    by false is old new = elim (or_cases (bytes_eq s.name name) (is_among name (names_after (s.name ∷ seen) all)) is) [
      | inl here ↦ or_left (same_name name s) (list_any (same_name name) all) here
      | inr more ↦ or_right (same_name name s) (list_any (same_name name) all) (new more)
    ]

  -- no opening is said
  abbrev is_plain : Saying → Bool
  is_plain s = same_name name s && not (is_opening s)

  all_plain : (all : List Saying) → list_any (same_name name) all ≡ true → is_said is_opening (filter (same_name name) all) ≡ false → list_any is_plain all ≡ true
  all_plain [] is none = absurd (cc is)
  all_plain (s ∷ all) is none = by (same_name name s) is none (all_plain all) where
    by : (b : Bool) → (b || list_any (same_name name) all) ≡ true → is_said is_opening (cond b (s ∷ filter (same_name name) all) (filter (same_name name) all)) ≡ false
        → (list_any (same_name name) all ≡ true → is_said is_opening (filter (same_name name) all) ≡ false → list_any is_plain all ≡ true) → ((b && not (is_opening s)) || list_any is_plain all) ≡ true
    by true is none rest = ap (λ b. not b || list_any is_plain all) (left_false (is_opening s) (is_said is_opening (filter (same_name name) all)) none)
    by false is none rest = rest is none

  map_back : {A B : Type 0} (p : B → Bool) (f : A → B) (xs : List A) → list_any p (map f xs) ≡ true → list_any (λ x. p (f x)) xs ≡ true
  map_back p f [] is = is
  map_back p f (x ∷ xs) is = elim (or_cases (p (f x)) (list_any p (map f xs)) is) [
    | inl here ↦ or_left (p (f x)) (list_any (λ x. p (f x)) xs) here
    | inr more ↦ or_right (p (f x)) (list_any (λ x. p (f x)) xs) (map_back p f xs more)
  ]

  flat_back : {A B : Type 0} (p : B → Bool) (f : A → List B) (xs : List A) → list_any p (flat_map f xs) ≡ true → list_any (λ x. list_any p (f x)) xs ≡ true
  flat_back p f [] is = is
  flat_back p f (x ∷ xs) is = elim (or_cases (list_any p (f x)) (list_any p (flat_map f xs)) (sym (list_any-append p (f x) (flat_map f xs)) ∙ is)) [
    | inl here ↦ or_left (list_any p (f x)) (list_any (λ x. list_any p (f x)) xs) here
    | inr more ↦ or_right (list_any p (f x)) (list_any (λ x. list_any p (f x)) xs) (flat_back p f xs more)
  ]

  to_filter : {A : Type 0} (test p : A → Bool) (xs : List A) → list_any (λ x. test x && p x) xs ≡ true → list_any p (filter test xs) ≡ true
  to_filter test p [] is = is
  to_filter test p (x ∷ xs) is = by (test x) is (to_filter test p xs) where
    by : (b : Bool) → ((b && p x) || list_any (λ x. test x && p x) xs) ≡ true → (list_any (λ x. test x && p x) xs ≡ true → list_any p (filter test xs) ≡ true) → list_any p (cond b (x ∷ filter test xs) (filter test xs)) ≡ true
    by false is rest = rest is
    by true is rest = elim (or_cases (p x) (list_any (λ x. test x && p x) xs) is) [
      | inl here ↦ or_left (p x) (list_any p (filter test xs)) here
      | inr more ↦ or_right (p x) (list_any p (filter test xs)) (rest more)
    ]

  -- what isn't an opening stands in an own statement
  at_statement : (statement : ℕ) → list_any (λ m. is_plain (saying files e.file m)) (said_at files e statement) ≡ true
      → (is_some_extent e (scope_of files e.file statement) && list_any (λ m. same_name name (saying files e.file m)) (mentions_at files e.file statement)) ≡ true
  at_statement statement is = by (is_some_extent e (scope_of files e.file statement)) is where
    weaker : (ms : List Mention) → list_any (λ m. is_plain (saying files e.file m)) ms ≡ true → list_any (λ m. same_name name (saying files e.file m)) ms ≡ true
    weaker ms is =
        any_weaker (λ m. is_plain (saying files e.file m)) (λ m. same_name name (saying files e.file m)) (λ m both. (and_parts (same_name name (saying files e.file m)) (not (is_opening (saying files e.file m))) both).0) ms is

    no_inner : (inner : Extent) (token : Option ℕ) → list_any (λ m. is_plain (saying files e.file m)) (option_map_or (λ token. mention token (inner_role (is_body files inner)) ∷ []) token []) ≡ true → ⊥
    no_inner inner None is = cc is
    no_inner inner (Some token) is = elim (or_cases (is_plain (saying files e.file (mention token (inner_role (is_body files inner))))) false is) [
      | inl here ↦
          let none : not (is_opening (saying files e.file (mention token (inner_role (is_body files inner))))) ≡ true =
          (and_parts (same_name name (saying files e.file (mention token (inner_role (is_body files inner))))) (not (is_opening (saying files e.file (mention token (inner_role (is_body files inner)))))) here).1 in
          let no : not true ≡ true = ap not (sym (inner_opens (name_at files e.file token) token (is_body files inner))) ∙ none in
          cc no
      | inr none ↦ cc none
    ]

    opened : (o : Option Extent) → list_any (λ m. is_plain (saying files e.file m)) (inner_at files e o) ≡ true → ⊥
    opened None is = cc is
    opened (Some inner) is = host (is_some_extent e (host_of files inner)) is where
      host : (b : Bool) → list_any (λ m. is_plain (saying files e.file m)) (cond b (inner_mention files inner) []) ≡ true → ⊥
      host true is = no_inner inner (name_token files inner) is
      host false is = cc is

    by : (b : Bool) → list_any (λ m. is_plain (saying files e.file m)) (cond b (mentions_at files e.file statement) (inner_at files e (opened_at files e.file statement))) ≡ true
        → (b && list_any (λ m. same_name name (saying files e.file m)) (mentions_at files e.file statement)) ≡ true
    by true is = weaker (mentions_at files e.file statement) is
    by false is = absurd (opened (opened_at files e.file statement) is)

  once_any : (names : List (List ℕ)) → list_any (λ other. bytes_eq other name) names ≡ true → list_any (λ other. bytes_eq other name) (once bytes_eq names) ≡ true
  once_any [] is = is
  once_any (x ∷ names) is = by (bytes_eq x name) refl is (once_any names) where
    stays : bytes_eq x name ≡ false → (ys : List (List ℕ)) → list_any (λ other. bytes_eq other name) ys ≡ true → list_any (λ other. bytes_eq other name) (filter (λ y. not (bytes_eq y x)) ys) ≡ true
    stays differ ys any =
        to_filter (λ y. not (bytes_eq y x)) (λ other. bytes_eq other name) ys
        (any_weaker (λ other. bytes_eq other name) (λ y. not (bytes_eq y x) && bytes_eq y name)
        (λ y here. ap₂ (λ a b. not a && b) (ap (λ n. bytes_eq n x) (same_bytes y name here) ∙ nat_list_eq_equiv.symm name x ∙ differ) here) ys any)

    by : (b : Bool) → bytes_eq x name ≡ b → (b || list_any (λ other. bytes_eq other name) names) ≡ true
        → (list_any (λ other. bytes_eq other name) names ≡ true → list_any (λ other. bytes_eq other name) (once bytes_eq names) ≡ true)
        → (b || list_any (λ other. bytes_eq other name) (filter (λ y. not (bytes_eq y x)) (once bytes_eq names))) ≡ true
    by true same is rest = refl
    by false differ is rest = stays differ (once bytes_eq names) (rest is)

  pub letter_named : is_letter_typed files e name ≡ true → is_among name (names_after [] (sayings files e)) ≡ true → is_named_in files e name ≡ true
  letter_named typed among =
      once_any (map (λ (m : Mention). name_at files e.file m.token) (own_mentions files e))
      (sym (any_map (λ other. bytes_eq other name) (λ (m : Mention). name_at files e.file m.token) (own_mentions files e))
      ∙ any_flat (λ (m : Mention). bytes_eq (name_at files e.file m.token) name) (mentions_at files e.file) (own_statements files e)
      (to_filter (λ statement. is_some_extent e (scope_of files e.file statement)) (λ statement. list_any (λ m. same_name name (saying files e.file m)) (mentions_at files e.file statement)) (all_statements e)
      (any_weaker (λ statement. list_any (λ m. is_plain (saying files e.file m)) (said_at files e statement))
      (λ statement. is_some_extent e (scope_of files e.file statement) && list_any (λ m. same_name name (saying files e.file m)) (mentions_at files e.file statement)) at_statement (all_statements e)
      (flat_back (λ m. is_plain (saying files e.file m)) (said_at files e) (all_statements e)
      (map_back is_plain (saying files e.file) (flat_map (said_at files e) (all_statements e))
      (all_plain (sayings files e) (among_said [] (sayings files e) among) (no_opening ((and_parts (spec.is_nothing (spec.declared_in files e name)) _ typed).0))))))))

-- ---- the entities of names

module _ (files : List FileTree) (are : AreTrees files) where
  -- a datum's name is one of its scoping unit
  datum_among : (n : ℕ) (d : Datum) → slice_get (all_data files) n ≡ Some d → is_among d.name (names_after [] (sayings files d.scope)) ≡ true
  datum_among n d there =
      let o = datum_owner files n d there in
      from _ (names_after [] (sayings files d.scope)) n (sym (number_is files o.scope d.scope o.there d.name) ∙ o.number)
    where
      from : (first : ℕ) (names : List (List ℕ)) (n : ℕ) → number_from first d.name names ≡ Some n → is_among d.name names ≡ true
      from first [] n is = absurd (cc is)
      from first (x ∷ names) n is = by (bytes_eq d.name x) refl is (from (first + 1) names n) where
        by : (b : Bool) → bytes_eq d.name x ≡ b → cond b (Some first) (number_from (first + 1) d.name names) ≡ Some n → (number_from (first + 1) d.name names ≡ Some n → is_among d.name names ≡ true)
            → (bytes_eq x d.name || is_among d.name names) ≡ true
        by true same is rest = or_left (bytes_eq x d.name) (is_among d.name names) (nat_list_eq_equiv.symm x d.name ∙ same)
        by false differ is rest = or_right (bytes_eq x d.name) (is_among d.name names) (rest is)

  module _ (n : ℕ) (d : Datum) (there : slice_get (all_data files) n ≡ Some d) where
    unit_is : IsUnit files d.scope
    unit_is = let o = datum_owner files n d there in (o.scope, o.there)

    abbrev answers : Bool
    answers = is_said answer (said_of files d.scope d.name)

    -- without an entity
    absent : own_entity files d ≡ None → list_any (is_entity_of files (own d.scope d.name)) (bound_entities files) ≡ true → ⊥
    absent none any =
        let some : is_some (position (is_entity_of files (own d.scope d.name)) (bound_entities files)) ≡ true = entity_there files are (own d.scope d.name) any in
        let no : false ≡ true = sym (ap (λ (o : Option ℕ). is_some o) none) ∙ some in
        cc no

    no_kind : own_entity files d ≡ None → (o : Option EntityKind) → kind_in files d.scope d.name ≡ o → kind_in files d.scope d.name ≡ None
    no_kind none None is = is
    no_kind none (Some k) is = absurd (absent none (real_there files are (own d.scope d.name) (unit_is, inl (ap (λ (o : Option EntityKind). is_some o) is))))

    no_letter : own_entity files d ≡ None → (b : Bool) → is_letter_typed files d.scope d.name ≡ b → is_letter_typed files d.scope d.name ≡ false
    no_letter none false is = is
    no_letter none true is = absurd (absent none (real_there files are (own d.scope d.name) (unit_is, inr (is, letter_named files d.scope d.name is (datum_among n d there)))))

    plain_or : (a b : Bool) → (a || b) ≡ (a || false || b)
    plain_or true b = refl
    plain_or false b = refl

    plain_none : (a : Bool) → (a || false) ≡ (a || false || false)
    plain_none true = refl
    plain_none false = refl

    plain_letter : (a : Bool) → (a || true) ≡ (a || true || false)
    plain_letter true = refl
    plain_letter false = refl

    without : own_entity files d ≡ None → HasKind files d
    without none =
        let own_none : own_kind files d ≡ None = ap (λ o. option_map kind_field (option_and_then (slice_get (bound_entities files)) o)) none in
        let kind_none = no_kind none (kind_in files d.scope d.name) refl in
        record {
          dummy_is = ap is_dummy_some own_none ∙ sym (no_dummy (has_result_at (layer_at files d.scope.file d.scope.opening)) (is_referenced files d.scope d.name) (said_of files d.scope d.name) kind_none);
          constant_is = ap is_constant_some own_none ∙ sym (ap (λ o. is_constant (unwrap_or o kinds.Variable)) kind_none);
          typed =
              ap (λ k. is_said answer (said_of files d.scope d.name) || has_type_some k) own_none ∙ plain_none (is_said answer (said_of files d.scope d.name))
              ∙ sym (ap₂ (λ l o. is_said answer (said_of files d.scope d.name) || l || option_map_or has_type o false) (no_letter none (is_letter_typed files d.scope d.name) refl) kind_none);
        }

    said_no_letter : (k : EntityKind) → kind_in files d.scope d.name ≡ Some k → (b : Bool) → is_letter_typed files d.scope d.name ≡ b → is_letter_typed files d.scope d.name ≡ false
    said_no_letter k said false is = is
    said_no_letter k said true is = absurd (cc (said, letter_kind files d.scope d.name is))

    with_kind : (k : EntityKind) → own_kind files d ≡ Some k → (kind_in files d.scope d.name ≡ Some k) ⊎ ((is_letter_typed files d.scope d.name ≡ true) × (k ≡ kinds.Variable)) → HasKind files d
    with_kind k own_is (inl said) = record {
      dummy_is = ap is_dummy_some own_is ∙ dummy_kind (has_result_at (layer_at files d.scope.file d.scope.opening)) (is_referenced files d.scope d.name) (said_of files d.scope d.name) k said;
      constant_is = ap is_constant_some own_is ∙ sym (ap (λ o. is_constant (unwrap_or o kinds.Variable)) said);
      typed =
          ap (λ k. is_said answer (said_of files d.scope d.name) || has_type_some k) own_is ∙ plain_or (is_said answer (said_of files d.scope d.name)) (has_type k)
          ∙ sym (ap₂ (λ l o. is_said answer (said_of files d.scope d.name) || l || option_map_or has_type o false) (said_no_letter k said (is_letter_typed files d.scope d.name) refl) said);
    }
    with_kind k own_is (inr (letter, variable)) =
        let kind_none = letter_kind files d.scope d.name letter in
        let own_variable : own_kind files d ≡ Some kinds.Variable = own_is ∙ ap Some variable in
        record {
          dummy_is = ap is_dummy_some own_variable ∙ sym (no_dummy (has_result_at (layer_at files d.scope.file d.scope.opening)) (is_referenced files d.scope d.name) (said_of files d.scope d.name) kind_none);
          constant_is = ap is_constant_some own_variable ∙ sym (ap (λ o. is_constant (unwrap_or o kinds.Variable)) kind_none);
          typed =
              ap (λ k. is_said answer (said_of files d.scope d.name) || has_type_some k) own_variable ∙ plain_letter (is_said answer (said_of files d.scope d.name))
              ∙ sym (ap₂ (λ l o. is_said answer (said_of files d.scope d.name) || l || option_map_or has_type o false) letter kind_none);
        }

    has_kind : HasKind files d
    has_kind = by (own_entity files d) refl where
      by : (o : Option ℕ) → own_entity files d ≡ o → HasKind files d
      by None none = without none
      by (Some i) is =
          let f = first_entity files are (own d.scope d.name) unit_is i is in
          let facts = each_at (IsOne files are) (bound_entities files) i f.entity (entities_one files are) f.there in
          with_kind f.entity.kind
          (ap (λ o. option_map kind_field (option_and_then (slice_get (bound_entities files)) o)) is ∙ ap (option_map kind_field) f.there) (facts.1 d.scope d.name unit_is f.passes)

  pub have_kinds : HaveKinds files
  have_kinds = record { all = has_kind }
