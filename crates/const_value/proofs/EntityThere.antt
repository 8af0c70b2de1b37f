-- The entities of a project have those that keys tell.
use Rattle.std.proofs.Common.{◌≡◌, ℕ, zero, suc, Bool, true, false, cond, List, [], ◌∷◌, ◌++◌, filter, map, Option, Some, None, slice_get, ◌⊎◌, inl, inr, refl, sym, ap, ap₂, subst, ◌∙◌, arith}
use Rattle.std.specs.Prelude.{◌&&◌, ◌||◌, ◌==◌, not}
use Rattle.std.specs.List.{cons_option, flat_map, list_any, position}
use Rattle.std.specs.Option.{is_some}
use Rattle.std.specs.Str.{bytes_eq}
use Rattle.std.specs.Cmp.Lexicographic.{nat_list_eq_equiv}
use Rattle.std.proofs.lemmas.Bool.Decides.{nat_tests}
use Rattle.std.proofs.lemmas.List.Folds.{list_any-append}
use Rattle.ftn_tree.specs.declared.table.EntityKind.{EntityKind}
use Rattle.ftn_tree.specs.declared.table.Extent.{Extent}
use Rattle.ftn_tree.specs.declared.unit.FileTree.{FileTree}
use Rattle.ftn_tree.specs.Bindings.{Denoting, bound_entities, denotings, draft_intrinsic, draft_letter, intrinsic_at, intrinsic_drafts, is_entity_of, is_key, is_letter_typed, letter_drafts, same_number}
use Rattle.ftn_tree.specs.DeclaredEntities.{Drafted, comes_before, draft_block, draft_name, draft_unit, drafts, drafts_in, has_result_at, in_order, is_referenced, kind_said, names_after, put_draft}
use Rattle.ftn_tree.specs.Extents.{is_body, layer_at, scoping}
use Rattle.ftn_tree.specs.GlobalNames.{Global, blocks, firsts_after, same_name as same_global}
use Rattle.ftn_tree.specs.Meanings.{Key, unit, own, block, intrinsic_function, names_in, same_names}
use Rattle.ftn_tree.specs.NameFaults.{said_of}
use Rattle.ftn_tree.specs.Projects.{AreTrees}
use Rattle.ftn_tree.specs.Sayings.{sayings, same_name}
use Rattle.ftn_tree.specs.Scopes.{scope_number}
use Rattle.decl_table.specs.steps.Seen.{is_among}
use Rattle.decl_table.proofs.OwnStatements.{number_of as number_there}
use Rattle.const_value.proofs.Members.{any_flat, any_map, or_cases, or_left, or_right, place_found}
use Rattle.const_value.proofs.NamedPlaces.{same_bytes}
use Rattle.const_value.proofs.NumberTurns.{none_said}
use Rattle.const_value.proofs.RealKeys.{IsReal, IsRealUnit, IsUnit, is_named_in, kind_in}

-- ---- lists

any_at : {A : Type 0} (p : A → Bool) (xs : List A) (k : ℕ) (x : A) → slice_get xs k ≡ Some x → p x ≡ true → list_any p xs ≡ true
any_at p [] k x is passes = absurd (cc is)
any_at p (y ∷ xs) zero x is passes = let same : y ≡ x = cc is in or_left (p y) (list_any p xs) (ap p same ∙ passes)
any_at p (y ∷ xs) (suc k) x is passes = or_right (p y) (list_any p xs) (any_at p xs k x is passes)

any_filter : {A : Type 0} (p test : A → Bool) (xs : List A) → list_any (λ x. test x && p x) xs ≡ true → list_any p (filter test xs) ≡ true
any_filter p test [] is = is
any_filter p test (x ∷ xs) is = by (test x) is (any_filter p test xs) where
  by : (b : Bool) → ((b && p x) || list_any (λ x. test x && p x) xs) ≡ true → (list_any (λ x. test x && p x) xs ≡ true → list_any p (filter test xs) ≡ true)
      → list_any p (cond b (x ∷ filter test xs) (filter test xs)) ≡ true
  by false is rest = rest is
  by true is rest = elim (or_cases (p x) (list_any (λ x. test x && p x) xs) is) [
    | inl here ↦ or_left (p x) (list_any p (filter test xs)) here
    | inr more ↦ or_right (p x) (list_any p (filter test xs)) (rest more)
  ]

append_left : {A : Type 0} (p : A → Bool) (xs ys : List A) → list_any p xs ≡ true → list_any p (xs ++ ys) ≡ true
append_left p xs ys is = list_any-append p xs ys ∙ or_left (list_any p xs) (list_any p ys) is

append_right : {A : Type 0} (p : A → Bool) (xs ys : List A) → list_any p ys ≡ true → list_any p (xs ++ ys) ≡ true
append_right p xs ys is = list_any-append p xs ys ∙ or_right (list_any p xs) (list_any p ys) is

-- where each that passes one test passes another
any_weaker : {A : Type 0} (p q : A → Bool) → ((x : A) → p x ≡ true → q x ≡ true) → (xs : List A) → list_any p xs ≡ true → list_any q xs ≡ true
any_weaker p q weaker [] is = is
any_weaker p q weaker (x ∷ xs) is = elim (or_cases (p x) (list_any p xs) is) [
  | inl here ↦ or_left (q x) (list_any q xs) (weaker x here)
  | inr more ↦ or_right (q x) (list_any q xs) (any_weaker p q weaker xs more)
]

-- ---- in their order

put_any : (p : Drafted → Bool) (d : Drafted) (xs : List Drafted) → (p d || list_any p xs) ≡ true → list_any p (put_draft d xs) ≡ true
put_any p d [] is = is
put_any p d (x ∷ xs) is = by (comes_before d x) (put_any p d xs) where
  by : (b : Bool) → ((p d || list_any p xs) ≡ true → list_any p (put_draft d xs) ≡ true) → list_any p (cond b (d ∷ x ∷ xs) (x ∷ put_draft d xs)) ≡ true
  by true rest = is
  by false rest = elim (or_cases (p d) (p x || list_any p xs) is) [
    | inl here ↦ or_right (p x) (list_any p (put_draft d xs)) (rest (or_left (p d) (list_any p xs) here))
    | inr more ↦ elim (or_cases (p x) (list_any p xs) more) [
      | inl first ↦ or_left (p x) (list_any p (put_draft d xs)) first
      | inr later ↦ or_right (p x) (list_any p (put_draft d xs)) (rest (or_right (p d) (list_any p xs) later))
    ]
  ]

order_any : (p : Drafted → Bool) (xs : List Drafted) → list_any p xs ≡ true → list_any p (in_order xs) ≡ true
order_any p [] is = is
order_any p (d ∷ xs) is = put_any p d (in_order xs) (elim (or_cases (p d) (list_any p xs) is) [
  | inl here ↦ or_left (p d) (list_any p (in_order xs)) here
  | inr more ↦ or_right (p d) (list_any p (in_order xs)) (order_any p xs more)
])

-- ---- names

same_is : (a b : Option (List ℕ)) → same_global a b ≡ same_names a b
same_is None None = refl
same_is None (Some b) = refl
same_is (Some a) None = refl
same_is (Some a) (Some b) = refl

-- the first of each name stays
firsts_any : (name : List ℕ) (seen all : List Global) → list_any (λ (g : Global). same_global g.name (Some name)) all ≡ true
    → (list_any (λ (g : Global). same_global g.name (Some name)) seen ≡ true) ⊎ (list_any (λ (g : Global). same_global g.name (Some name)) (firsts_after seen all) ≡ true)
firsts_any name seen [] is = absurd (cc is)
firsts_any name seen (g ∷ all) is =
    by (list_any (λ (earlier : Global). same_global earlier.name g.name) seen) refl (or_cases (same_global g.name (Some name)) (list_any (λ (g : Global). same_global g.name (Some name)) all) is)
    (firsts_any name seen all) (firsts_any name (g ∷ seen) all)
  where
    same_as : (a b : Option (List ℕ)) → same_global a b ≡ true → same_global b (Some name) ≡ true → same_global a (Some name) ≡ true
    same_as None None same_one also = absurd (cc also)
    same_as None (Some b) same_one also = absurd (cc same_one)
    same_as (Some a) None same_one also = absurd (cc same_one)
    same_as (Some a) (Some b) same_one also = ap (λ x. bytes_eq x name) (same_bytes a b same_one) ∙ also

    by : (b : Bool) → list_any (λ (earlier : Global). same_global earlier.name g.name) seen ≡ b
        → (same_global g.name (Some name) ≡ true) ⊎ (list_any (λ (g : Global). same_global g.name (Some name)) all ≡ true)
        → (list_any (λ (g : Global). same_global g.name (Some name)) all ≡ true
        → (list_any (λ (g : Global). same_global g.name (Some name)) seen ≡ true) ⊎ (list_any (λ (g : Global). same_global g.name (Some name)) (firsts_after seen all) ≡ true))
        → (list_any (λ (g : Global). same_global g.name (Some name)) all ≡ true
        → ((same_global g.name (Some name) || list_any (λ (g : Global). same_global g.name (Some name)) seen) ≡ true)
        ⊎ (list_any (λ (g : Global). same_global g.name (Some name)) (firsts_after (g ∷ seen) all) ≡ true))
        → (list_any (λ (g : Global). same_global g.name (Some name)) seen ≡ true) ⊎ (list_any (λ (g : Global). same_global g.name (Some name)) (cond b (firsts_after seen all) (g ∷ firsts_after (g ∷ seen) all)) ≡ true)
    by true come (inl here) old new = inl (any_weaker (λ (earlier : Global). same_global earlier.name g.name) (λ (g : Global). same_global g.name (Some name)) (λ x same. same_as x.name g.name same here) seen come)
    by true come (inr more) old new = old more
    by false come (inl here) old new = inr (or_left (same_global g.name (Some name)) (list_any (λ (g : Global). same_global g.name (Some name)) (firsts_after (g ∷ seen) all)) here)
    by false come (inr more) old new = elim (new more) [
      | inl before ↦ elim (or_cases (same_global g.name (Some name)) (list_any (λ (g : Global). same_global g.name (Some name)) seen) before) [
        | inl here ↦ inr (or_left (same_global g.name (Some name)) (list_any (λ (g : Global). same_global g.name (Some name)) (firsts_after (g ∷ seen) all)) here)
        | inr there ↦ inl there
      ]
      | inr after ↦ inr (or_right (same_global g.name (Some name)) (list_any (λ (g : Global). same_global g.name (Some name)) (firsts_after (g ∷ seen) all)) after)
    ]

first_any : (name : List ℕ) (all : List Global) → list_any (λ (g : Global). same_global g.name (Some name)) all ≡ true → list_any (λ (g : Global). same_global g.name (Some name)) (firsts_after [] all) ≡ true
first_any name all is = elim (firsts_any name [] all is) [
  | inl none ↦ absurd (let no : false ≡ true = none in cc no)
  | inr there ↦ there
]

-- nothing is said of a name without sayings
no_kind : (has referenced : Bool) → kind_said has referenced [] ≡ None
no_kind has true = refl
no_kind has false = refl

module _ (files : List FileTree) (are : AreTrees files) where
  -- where a draft is that of the key
  drafted_there : (key : Key) → list_any (λ (d : Drafted). is_entity_of files key d.entity) (drafts files ++ (flat_map (letter_drafts files) (scoping files) ++ intrinsic_drafts files)) ≡ true
      → list_any (is_entity_of files key) (bound_entities files) ≡ true
  drafted_there key is =
      sym (any_map (is_entity_of files key) (λ (d : Drafted). d.entity) (in_order (drafts files ++ (flat_map (letter_drafts files) (scoping files) ++ intrinsic_drafts files))))
      ∙ order_any (λ (d : Drafted). is_entity_of files key d.entity) (drafts files ++ (flat_map (letter_drafts files) (scoping files) ++ intrinsic_drafts files)) is

  number_same : (j : ℕ) → (j == j) ≡ true
  number_same j = grind (arith, nat_tests)

  number_is : (e : Extent) (there : IsUnit files e) → scope_number files e ≡ Some (there.0)
  number_is e there = number_there files are there.0 e there.1

  -- ---- units

  unit_there : (e : Extent) → IsRealUnit files e → list_any (is_entity_of files (unit e)) (bound_entities files) ≡ true
  unit_there e real =
      drafted_there (unit e)
      (append_left (λ (d : Drafted). is_entity_of files (unit e) d.entity) (drafts files) _
      (append_left (λ (d : Drafted). is_entity_of files (unit e) d.entity) (map (draft_unit files) (filter (λ e. not (is_body files e)) (scoping files))) _
      (sym (any_map (λ (d : Drafted). is_entity_of files (unit e) d.entity) (draft_unit files) (filter (λ e. not (is_body files e)) (scoping files)))
      ∙ any_filter (λ x. is_entity_of files (unit e) ((draft_unit files x).entity)) (λ e. not (is_body files e)) (scoping files)
      (any_at (λ x. not (is_body files x) && is_entity_of files (unit e) ((draft_unit files x).entity)) (scoping files) real.0.0 e real.0.1
      (ap₂ (λ b o. not b && same_number o o) real.1 (number_is e real.0) ∙ number_same real.0.0)))))

  -- ---- names

  own_is : (e : Extent) → IsUnit files e → (name other : List ℕ) → bytes_eq other name ≡ true → (same_number (scope_number files e) (scope_number files e) && bytes_eq other name) ≡ true
  own_is e there name other same = ap₂ (λ o b. same_number o o && b) (number_is e there) same ∙ ap (λ b. b && true) (number_same there.0)

  declared_there : (e : Extent) → IsUnit files e → (name : List ℕ) → is_some (kind_in files e name) ≡ true → list_any (is_entity_of files (own e name)) (bound_entities files) ≡ true
  declared_there e there name some =
      drafted_there (own e name)
      (append_left (λ (d : Drafted). is_entity_of files (own e name) d.entity) (drafts files) _
      (append_right (λ (d : Drafted). is_entity_of files (own e name) d.entity) (map (draft_unit files) (filter (λ e. not (is_body files e)) (scoping files))) _
      (append_left (λ (d : Drafted). is_entity_of files (own e name) d.entity) (flat_map (drafts_in files) (scoping files)) _
      (any_flat (λ (d : Drafted). is_entity_of files (own e name) d.entity) (drafts_in files) (scoping files)
      (any_at (λ x. list_any (λ (d : Drafted). is_entity_of files (own e name) d.entity) (drafts_in files x)) (scoping files) there.0 e there.1
      (any_flat (λ (d : Drafted). is_entity_of files (own e name) d.entity) (λ n. cons_option (draft_name files e n (filter (same_name n) (sayings files e))) []) (names_after [] (sayings files e))
      (any_weaker (λ n. bytes_eq n name) (λ n. list_any (λ (d : Drafted). is_entity_of files (own e name) d.entity) (cons_option (draft_name files e n (filter (same_name n) (sayings files e))) [])) drafted
      (names_after [] (sayings files e)) (among (is_among name (names_after [] (sayings files e))) refl))))))))
    where
      among : (b : Bool) → is_among name (names_after [] (sayings files e)) ≡ b → list_any (λ n. bytes_eq n name) (names_after [] (sayings files e)) ≡ true
      among true is = is
      among false is =
          let none : said_of files e name ≡ [] = none_said [] (sayings files e) name refl is in
          let no_kind_there : kind_in files e name ≡ None =
          ap (kind_said (has_result_at (layer_at files e.file e.opening)) (is_referenced files e name)) none ∙ no_kind (has_result_at (layer_at files e.file e.opening)) (is_referenced files e name) in
          absurd (cc (some, ap (λ (o : Option EntityKind). is_some o) no_kind_there))

      drafted : (n : List ℕ) → bytes_eq n name ≡ true → list_any (λ (d : Drafted). is_entity_of files (own e name) d.entity) (cons_option (draft_name files e n (filter (same_name n) (sayings files e))) []) ≡ true
      drafted n same = subst (λ m. list_any (λ (d : Drafted). is_entity_of files (own e name) d.entity) (cons_option (draft_name files e m (filter (same_name m) (sayings files e))) []) ≡ true) (sym (same_bytes n name same)) (by (kind_in files e name) refl some) where
        by : (o : Option EntityKind) → kind_in files e name ≡ o → is_some o ≡ true
            → list_any (λ (d : Drafted). is_entity_of files (own e name) d.entity) (cons_option (draft_name files e name (filter (same_name name) (sayings files e))) []) ≡ true
        by None none is = absurd (cc is)
        by (Some k) kind is = rw kind (ap (λ b. b || false) (own_is e there name name (nat_list_eq_equiv.refl name)))

  typed_there : (e : Extent) → IsUnit files e → (name : List ℕ) → is_letter_typed files e name ≡ true → is_named_in files e name ≡ true → list_any (is_entity_of files (own e name)) (bound_entities files) ≡ true
  typed_there e there name typed named =
      drafted_there (own e name)
      (append_right (λ (d : Drafted). is_entity_of files (own e name) d.entity) (drafts files) _
      (append_left (λ (d : Drafted). is_entity_of files (own e name) d.entity) (flat_map (letter_drafts files) (scoping files)) _
      (any_flat (λ (d : Drafted). is_entity_of files (own e name) d.entity) (letter_drafts files) (scoping files)
      (any_at (λ x. list_any (λ (d : Drafted). is_entity_of files (own e name) d.entity) (letter_drafts files x)) (scoping files) there.0 e there.1
      (sym (any_map (λ (d : Drafted). is_entity_of files (own e name) d.entity) (draft_letter files e) (filter (is_letter_typed files e) (names_in files e)))
      ∙ any_filter (λ n. is_entity_of files (own e name) ((draft_letter files e n).entity)) (is_letter_typed files e) (names_in files e)
      (any_weaker (λ n. bytes_eq n name) (λ n. is_letter_typed files e n && is_entity_of files (own e name) ((draft_letter files e n).entity)) drafted (names_in files e) named))))))
    where
      drafted : (n : List ℕ) → bytes_eq n name ≡ true → (is_letter_typed files e n && is_entity_of files (own e name) ((draft_letter files e n).entity)) ≡ true
      drafted n same = ap₂ (λ a b. a && b) (ap (is_letter_typed files e) (same_bytes n name same) ∙ typed) (own_is e there name n same)

  -- ---- blocks and intrinsic functions

  block_there : (name : List ℕ) → list_any (λ (g : Global). same_global g.name (Some name)) (blocks files) ≡ true → list_any (is_entity_of files (block (Some name))) (bound_entities files) ≡ true
  block_there name listed =
      drafted_there (block (Some name))
      (append_left (λ (d : Drafted). is_entity_of files (block (Some name)) d.entity) (drafts files) _
      (append_right (λ (d : Drafted). is_entity_of files (block (Some name)) d.entity) (map (draft_unit files) (filter (λ e. not (is_body files e)) (scoping files))) _
      (append_right (λ (d : Drafted). is_entity_of files (block (Some name)) d.entity) (flat_map (drafts_in files) (scoping files)) _
      (append_left (λ (d : Drafted). is_entity_of files (block (Some name)) d.entity) (map (draft_block files) (blocks files)) _
      (sym (any_map (λ (d : Drafted). is_entity_of files (block (Some name)) d.entity) (draft_block files) (blocks files))
      ∙ any_weaker (λ (g : Global). same_global g.name (Some name)) (λ (g : Global). is_entity_of files (block (Some name)) ((draft_block files g).entity)) (λ g is. sym (same_is g.name (Some name)) ∙ is) (blocks files) listed)))))

  -- where an occurrence of that name denotes it
  abbrev pub is_intrinsic_of : List ℕ → Denoting → Bool
  is_intrinsic_of name d = bytes_eq d.name name && is_key (intrinsic_function d.name) d.meaning

  pub intrinsic_there : (name : List ℕ) → list_any (is_intrinsic_of name) (denotings files) ≡ true → list_any (is_entity_of files (intrinsic_function name)) (bound_entities files) ≡ true
  intrinsic_there name denoted =
      drafted_there (intrinsic_function name)
      (append_right (λ (d : Drafted). is_entity_of files (intrinsic_function name) d.entity) (drafts files) _
      (append_right (λ (d : Drafted). is_entity_of files (intrinsic_function name) d.entity) (flat_map (letter_drafts files) (scoping files)) _
      (sym (any_map (λ (d : Drafted). is_entity_of files (intrinsic_function name) d.entity) (draft_intrinsic files) (firsts_after [] (flat_map intrinsic_at (denotings files))))
      ∙ any_weaker (λ (g : Global). same_global g.name (Some name)) (λ (g : Global). is_entity_of files (intrinsic_function name) ((draft_intrinsic files g).entity)) (λ g is. sym (same_is g.name (Some name)) ∙ is)
      (firsts_after [] (flat_map intrinsic_at (denotings files)))
      (first_any name (flat_map intrinsic_at (denotings files))
      (any_flat (λ (g : Global). same_global g.name (Some name)) intrinsic_at (denotings files)
      (any_weaker (is_intrinsic_of name) (λ d. list_any (λ (g : Global). same_global g.name (Some name)) (intrinsic_at d)) at_one (denotings files) denoted))))))
    where
      at_one : (d : Denoting) → is_intrinsic_of name d ≡ true → list_any (λ (g : Global). same_global g.name (Some name)) (intrinsic_at d) ≡ true
      at_one d is = by (bytes_eq d.name name) (is_key (intrinsic_function d.name) d.meaning) refl is where
        by : (a b : Bool) → bytes_eq d.name name ≡ a → (a && b) ≡ true → list_any (λ (g : Global). same_global g.name (Some name)) (cond b (record { name = Some d.name; at = d.at } ∷ []) []) ≡ true
        by true true named is = ap (λ b. b || false) named
        by true false named is = absurd (cc is)
        by false b named is = absurd (cc is)

  -- ---- all keys

  pub real_there : (key : Key) → IsReal files key → list_any (is_entity_of files key) (bound_entities files) ≡ true
  real_there (unit e) real = unit_there e real
  real_there (own e name) (there, inl some) = declared_there e there name some
  real_there (own e name) (there, inr typed) = typed_there e there name typed.0 typed.1
  real_there (block None) real = absurd real
  real_there (block (Some name)) real = block_there name real
  real_there (intrinsic_function name) real = absurd real

  pub entity_there : (key : Key) → list_any (is_entity_of files key) (bound_entities files) ≡ true → is_some (position (is_entity_of files key) (bound_entities files)) ≡ true
  entity_there key any = place_found (is_entity_of files key) (bound_entities files) any
