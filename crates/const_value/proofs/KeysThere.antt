-- Keys at tokens have entities, and constants have numbers.
use Rattle.std.proofs.Common.{◌≡◌, ℕ, zero, suc, ◌+◌, ◌<◌, Bool, true, false, cond, List, [], ◌∷◌, ◌++◌, filter, map, Option, Some, None, slice_get, inl, inr, refl, sym, ap, ap₂, subst, ◌∙◌, arith}
use Rattle.std.specs.Prelude.{◌&&◌, ◌||◌, ◌==◌, not}
use Rattle.std.specs.List.{find, flat_map, list_any, position, position_from, AllByRecursion as Each}
use Rattle.std.specs.Option.{is_some, option_and_then, option_map_or, option_or, unwrap_or}
use Rattle.std.specs.Str.{bytes_eq}
use Rattle.std.specs.Cmp.Lexicographic.{nat_list_eq_equiv}
use Rattle.std.proofs.lemmas.Bool.{and_parts}
use Rattle.std.proofs.lemmas.Bool.Decides.{nat_tests}
use Rattle.std.proofs.lemmas.Iterator.Adapters.{position_from-zero}
use Rattle.std.proofs.lemmas.List.Folds.{list_any-append}
use Rattle.ftn_tree.specs.declared.table.Entity.{Entity}
use Rattle.ftn_tree.specs.declared.table.EntityKind.{EntityKind}
use Rattle.ftn_tree.specs.declared.table.EntityKind.TheVariants as kinds
use Rattle.ftn_tree.specs.declared.table.Extent.{Extent}
use Rattle.ftn_tree.specs.declared.unit.FileTree.{FileTree}
use Rattle.ftn_tree.specs.Bindings.{Denoting, bound_entities, denotings, is_entity_of, is_key, same_number}
use Rattle.ftn_tree.specs.Circles.{constant_number, constants, constants_in}
use Rattle.ftn_tree.specs.DeclaredEntities.{has_result_at, is_referenced, is_said, names_after}
use Rattle.ftn_tree.specs.Extents.{layer_at, same_extent, scoping}
use Rattle.ftn_tree.specs.KeyKinds.{Datum, datum, datum_of, is_at, is_constant, key_at, key_of, kind_of}
use Rattle.ftn_tree.specs.Meanings.{Key, Meaning, unit, own, block, intrinsic_function, nothing, one, several, unknown, same_key, same_names}
use Rattle.ftn_tree.specs.NameFaults.{name_fault, said_of}
use Rattle.ftn_tree.specs.Projects.{AreTrees}
use Rattle.ftn_tree.specs.Sayings.{Saying, parameter, same_name, sayings}
use Rattle.ftn_tree.specs.Scopes.{scope_number}
use Rattle.decl_table.specs.steps.Seen.{is_among}
use Rattle.decl_table.proofs.OwnStatements.{number_of as number_there, same_number as same_number_of, told_apart}
use Rattle.const_value.specs.steps.Gathered.{datum_number, key_number, name_number}
use Rattle.const_value.specs.steps.Names.{all_data, all_said, number_from, number_of}
use Rattle.const_value.specs.steps.Numbered.{AreEntities, AreNumbered, IsEntity, IsNamed, IsNumbered}
use Rattle.const_value.proofs.DataNumbers.{datum_owner, number_datum}
use Rattle.const_value.proofs.EntityFits.{IsMember, first_entity, unit_not_constant}
use Rattle.const_value.proofs.EntityThere.{entity_there, intrinsic_there, is_intrinsic_of, real_there}
use Rattle.const_value.proofs.KindsSaid.{constant_said}
use Rattle.const_value.proofs.NamePlaces.{AreApart, all_apart}
use Rattle.const_value.proofs.Members.{any_flat, or_cases, or_left, or_right, place_found}
use Rattle.const_value.proofs.NamedPlaces.{same_bytes}
use Rattle.const_value.proofs.NumberTurns.{none_said}
use Rattle.const_value.proofs.OneMeaning.{uses_fine}
use Rattle.const_value.proofs.RealKeys.{IsRealFor, IsRealMeaning, IsUnit, kind_in}
use Rattle.const_value.proofs.RealTokens.{AreNoBodies, each_real}
use Rattle.const_value.proofs.UnitWriting.{number_is}

-- ---- lists

find_each : {A : Type 0} (P : A → Type 0) (p : A → Bool) (xs : List A) (x : A) → Each P xs → find p xs ≡ Some x → P x
find_each P p [] x all is = absurd (cc is)
find_each {A} P p (y ∷ xs) x all is = by (p y) is (find_each P p xs x all.1) where
  by : (b : Bool) → cond b (Some y) (find p xs) ≡ Some x → (find p xs ≡ Some x → P x) → P x
  by true is rest = let same : y ≡ x = cc is in subst P same all.0
  by false is rest = rest is

find_member : {A : Type 0} (p q : A → Bool) (xs : List A) (x : A) → find p xs ≡ Some x → q x ≡ true → list_any q xs ≡ true
find_member p q [] x is passes = absurd (cc is)
find_member {A} p q (y ∷ xs) x is passes = by (p y) is (find_member p q xs x) where
  by : (b : Bool) → cond b (Some y) (find p xs) ≡ Some x → (find p xs ≡ Some x → q x ≡ true → list_any q xs ≡ true) → (q y || list_any q xs) ≡ true
  by true is rest = let same : y ≡ x = cc is in or_left (q y) (list_any q xs) (ap q same ∙ passes)
  by false is rest = or_right (q y) (list_any q xs) (rest is passes)

some_of : (o : Option ℕ) → is_some o ≡ true → (n : ℕ) × (o ≡ Some n)
some_of None is = absurd (cc is)
some_of (Some n) is = (n, refl)

-- what is found is there, and passes
found : {A : Type 0} (p : A → Bool) (xs : List A) (n : ℕ) → position p xs ≡ Some n → (x : A) × (slice_get xs n ≡ Some x) × (p x ≡ true)
found {A} p xs n is =
    let (k, same, x, there, passes) = from xs 0 (sym (position_from-zero p xs) ∙ is) in
    let equal : k ≡ n = omega (arith, same) in
    (x, subst (λ m. slice_get xs m ≡ Some x) equal there, passes)
  where
    from : (ys : List A) (at : ℕ) → position_from p at ys ≡ Some n → (k : ℕ) × (n ≡ at + k) × (x : A) × (slice_get ys k ≡ Some x) × (p x ≡ true)
    from [] at is = absurd (cc is)
    from (y ∷ ys) at is = by (p y) refl is (from ys (at + 1)) where
      by : (b : Bool) → p y ≡ b → cond b (Some at) (position_from p (at + 1) ys) ≡ Some n → (position_from p (at + 1) ys ≡ Some n → (k : ℕ) × (n ≡ at + 1 + k) × (x : A) × (slice_get ys k ≡ Some x) × (p x ≡ true))
          → (k : ℕ) × (n ≡ at + k) × (x : A) × (slice_get (y ∷ ys) k ≡ Some x) × (p x ≡ true)
      by true passes is rest = let same : at ≡ n = cc is in (0, omega (arith, same), y, refl, passes)
      by false fails is rest = let (k, same, x, there, passes) = rest is in (suc k, omega (arith, same), x, there, passes)

each_get : {A : Type 0} (P : A → Type 0) (xs : List A) (n : ℕ) (x : A) → Each P xs → slice_get xs n ≡ Some x → P x
each_get P [] n x all is = absurd (cc is)
each_get P (y ∷ xs) zero x all is = let same : y ≡ x = cc is in subst P same all.0
each_get P (y ∷ xs) (suc n) x all is = each_get P xs n x all.1 is

-- ---- what stands at a token

module _ (files : List FileTree) (are : AreTrees files) (no_fault : name_fault files ≡ None) (no_bodies : AreNoBodies files) where
  -- the occurrence that tells the key
  pub record Denoted (key : Key) : Type 0 where
    pub denoting : Denoting
    pub meaning_is : denoting.meaning ≡ one key
    pub real : IsRealFor files denoting.name key
    pub listed : (q : Denoting → Bool) → q denoting ≡ true → list_any q (denotings files) ≡ true

  pub denoted_at : (file token : ℕ) (key : Key) → key_at files file token ≡ Some key → Denoted key
  denoted_at file token key is = by (find (is_at file token) (denotings files)) refl is where
    key_is : (meaning : Meaning) → key_of meaning ≡ Some key → meaning ≡ one key
    key_is nothing is = absurd (cc is)
    key_is (one other) is = let same : other ≡ key = cc is in ap one same
    key_is (several a b rest) is = absurd (cc is)
    key_is unknown is = absurd (cc is)

    by : (o : Option Denoting) → find (is_at file token) (denotings files) ≡ o → option_map_or (λ (d : Denoting). key_of d.meaning) o None ≡ Some key → Denoted key
    by None there is = absurd (cc is)
    by (Some d) there is = record {
      denoting = d;
      meaning_is = key_is d.meaning is;
      real =
          subst (IsRealMeaning files d.name) (key_is d.meaning is)
          (find_each (λ (d : Denoting). IsRealMeaning files d.name d.meaning) (is_at file token) (denotings files) d (each_real files are (uses_fine files are no_fault) no_bodies) there);
      listed = λ q passes. find_member (is_at file token) q (denotings files) d there passes;
    }

  pub member : (name : List ℕ) (key : Key) → IsRealFor files name key → IsMember files are key
  member name (unit e) real = tt
  member name (own e n) real = real.0
  member name (block b) real = tt
  member name (intrinsic_function n) real = tt

  any_there : (key : Key) → Denoted key → list_any (is_entity_of files key) (bound_entities files) ≡ true
  any_there (unit e) d = real_there files are (unit e) d.real
  any_there (own e name) d = real_there files are (own e name) d.real
  any_there (block b) d = real_there files are (block b) d.real
  any_there (intrinsic_function name) d =
      intrinsic_there files are name
      (d.listed (is_intrinsic_of files are name)
      (ap₂ (λ a b. a && b) (ap (bytes_eq d.denoting.name) d.real ∙ nat_list_eq_equiv.refl d.denoting.name)
      (ap (is_key (intrinsic_function d.denoting.name)) d.meaning_is ∙ ap (bytes_eq d.denoting.name) d.real ∙ nat_list_eq_equiv.refl d.denoting.name)))

  entity_of : (key : Key) (n : ℕ) → IsMember files are key → key_number files key ≡ Some n → IsEntity files n key
  entity_of key n member is =
      let f = first_entity files are key member n is in
      record { entity = f.entity; there = f.there; naming = f.naming; name = λ d of_key constant. name_is key member f.entity f.passes d of_key constant }
    where
      -- the entity of a name has its name in its scoping unit
      own_name : (opens home : Option ℕ) (name : Option (List ℕ)) (scope : ℕ) (wanted : List ℕ) → (not (is_some opens) && same_number home (Some scope) && same_names name (Some wanted)) ≡ true
          → option_and_then (λ s. option_and_then (number_of (all_said files) s) name) (option_or opens home) ≡ number_of (all_said files) scope wanted
      own_name (Some s) home name scope wanted is = absurd (cc is)
      own_name None None name scope wanted is = absurd (cc is)
      own_name None (Some h) None scope wanted is = absurd (let parts = and_parts (h == scope) false is in cc (parts.1))
      own_name None (Some h) (Some n) scope wanted is =
          let parts = and_parts (h == scope) (bytes_eq n wanted) is in
          let same : h ≡ scope = equal h scope parts.0 in
          ap₂ (number_of (all_said files)) same (same_bytes n wanted parts.1)
        where
          equal : (h scope : ℕ) → (h == scope) ≡ true → h ≡ scope
          equal h scope is = grind (arith, nat_tests)

      name_is : (key : Key) → IsMember files are key → (entity : Entity) → is_entity_of files key entity ≡ true → (d : Datum) → datum_of files key ≡ Some d → is_constant (kind_of files key) ≡ true
          → name_number files entity ≡ datum_number files d
      name_is (unit e) member entity passes d of_key constant = absurd (cc (constant, unit_not_constant (layer_at files e.file e.opening)))
      name_is (block b) member entity passes d of_key constant = absurd (cc constant)
      name_is (intrinsic_function name) member entity passes d of_key constant = absurd (cc constant)
      name_is (own e name) member entity passes d of_key constant =
          let number : scope_number files e ≡ Some (member.0) = number_there files are member.0 e member.1 in
          own_name entity.opens entity.home entity.name member.0 name (ap (λ o. not (is_some entity.opens) && same_number entity.home o && same_names entity.name (Some name)) (sym number) ∙ passes)
          ∙ sym (ap (option_and_then (λ scope. number_of (all_said files) scope name)) number)
          ∙ ap (datum_number files) (some_same of_key)
        where
          some_same : {x y : Datum} → Some x ≡ Some y → x ≡ y
          some_same is = cc is

  pub are_entities : AreEntities files
  are_entities = record {
    tokens = λ file token key is.
        let d = denoted_at file token key is in
        let (n, at) = some_of (position (is_entity_of files key) (bound_entities files)) (entity_there files are key (any_there key d)) in
        (n, at, entity_of key n (member d.denoting.name key d.real) at);
    names = λ name d number there is.
        let o = datum_owner files name d there in
        entity_of (own d.scope d.name) number (o.scope, o.there) is;
    constants = λ name d there constant.
        let o = datum_owner files name d there in
        some_of (position (is_entity_of files (own d.scope d.name)) (bound_entities files))
        (entity_there files are (own d.scope d.name) (real_there files are (own d.scope d.name) ((o.scope, o.there), inl (some_kind (kind_in files d.scope d.name) constant))));
  } where
    some_kind : (o : Option EntityKind) → is_constant (unwrap_or o kinds.Variable) ≡ true → is_some o ≡ true
    some_kind None is = absurd (cc is)
    some_kind (Some k) is = refl

  -- ---- constants

  -- a name of a scoping unit is numbered
  pub named_there : (e : Extent) → IsUnit files e → (name : List ℕ) → is_among name (names_after [] (sayings files e)) ≡ true
      → (n : ℕ) × (slice_get (all_data files) n ≡ Some (datum e name)) × (datum_number files (datum e name) ≡ Some n)
  named_there e there name among =
      let (n, is) = from _ (names_after [] (sayings files e)) among in
      let number : number_of (all_said files) there.0 name ≡ Some n = number_is files there.0 e there.1 name ∙ is in
      let p = number_datum files there.0 name n number in
      let same : p.unit ≡ e = some_same (sym p.there ∙ there.1) in
      (n, p.here ∙ ap (λ x. Some (datum x name)) same, ap (option_and_then (λ scope. number_of (all_said files) scope name)) (number_there files are there.0 e there.1) ∙ number)
    where
      some_same : {x : Extent} → Some x ≡ Some e → x ≡ e
      some_same is = cc is

      from : (first : ℕ) (names : List (List ℕ)) → is_among name names ≡ true → (n : ℕ) × (number_from first name names ≡ Some n)
      from first [] is = absurd (cc is)
      from first (x ∷ names) is = by (bytes_eq name x) refl (from (first + 1) names) where
        by : (b : Bool) → bytes_eq name x ≡ b → (is_among name names ≡ true → (n : ℕ) × (number_from (first + 1) name names ≡ Some n)) → (n : ℕ) × (cond b (Some first) (number_from (first + 1) name names) ≡ Some n)
        by true same rest = (first, refl)
        by false differ rest = rest (elim (or_cases (bytes_eq x name) (is_among name names) is) [
          | inl here ↦ absurd (cc (sym differ ∙ nat_list_eq_equiv.symm name x ∙ here))
          | inr more ↦ more
        ])

  -- constants are those of scoping units
  abbrev pub IsOwnConstant : Key → Type 0
  IsOwnConstant (own e name) = IsUnit files e × (is_constant (kind_of files (own e name)) ≡ true)
  IsOwnConstant (unit e) = ⊥
  IsOwnConstant (block b) = ⊥
  IsOwnConstant (intrinsic_function name) = ⊥

  each_constant : Each IsOwnConstant (constants files)
  each_constant = flat (scoping files) (λ j e is. (j, is)) where
    names : (e : Extent) → IsUnit files e → (ns : List (List ℕ)) → Each IsOwnConstant (filter (λ key. is_constant (kind_of files key)) (map (own e) ns))
    names e there [] = tt
    names e there (n ∷ ns) = by (is_constant (kind_of files (own e n))) refl (names e there ns) where
      by : (b : Bool) → is_constant (kind_of files (own e n)) ≡ b → Each IsOwnConstant (filter (λ key. is_constant (kind_of files key)) (map (own e) ns))
          → Each IsOwnConstant (cond b (own e n ∷ filter (λ key. is_constant (kind_of files key)) (map (own e) ns)) (filter (λ key. is_constant (kind_of files key)) (map (own e) ns)))
      by true is rest = ((there, is), rest)
      by false is rest = rest

    join : (xs ys : List Key) → Each IsOwnConstant xs → Each IsOwnConstant ys → Each IsOwnConstant (xs ++ ys)
    join [] ys all more = more
    join (x ∷ xs) ys all more = (all.0, join xs ys all.1 more)

    flat : (es : List Extent) → ((j : ℕ) (e : Extent) → slice_get es j ≡ Some e → IsUnit files e) → Each IsOwnConstant (flat_map (constants_in files) es)
    flat [] there = tt
    flat (e ∷ es) there = join (constants_in files e) (flat_map (constants_in files) es) (names e (there 0 e refl) (names_after [] (filter parameter (sayings files e)))) (flat es (λ j x is. there (suc j) x is))

  -- no constant stands twice
  abbrev pub AreApartKeys : List Key → Type 0
  AreApartKeys [] = Unit {0}
  AreApartKeys (key ∷ keys) = (list_any (same_key key) keys ≡ false) × AreApartKeys keys

  apart_join : (xs ys : List Key) → AreApartKeys xs → AreApartKeys ys → Each (λ key. list_any (same_key key) ys ≡ false) xs → AreApartKeys (xs ++ ys)
  apart_join [] ys one_list other across = other
  apart_join (x ∷ xs) ys one_list other across =
      (list_any-append (same_key x) xs ys ∙ ap₂ (λ a b. a || b) one_list.0 across.0, apart_join xs ys one_list.1 other across.1)

  left_false : (a b : Bool) → (a || b) ≡ false → a ≡ false
  left_false true b is = absurd (cc is)
  left_false false b is = refl

  right_false : (a b : Bool) → (a || b) ≡ false → b ≡ false
  right_false true b is = absurd (cc is)
  right_false false b is = is

  and_false : (a : Bool) → (a && false) ≡ false
  and_false true = refl
  and_false false = refl

  none_filter : (p test : Key → Bool) (xs : List Key) → list_any p xs ≡ false → list_any p (filter test xs) ≡ false
  none_filter p test [] is = is
  none_filter p test (x ∷ xs) is = by (test x) (none_filter p test xs (right_false (p x) (list_any p xs) is)) where
    by : (t : Bool) → list_any p (filter test xs) ≡ false → list_any p (cond t (x ∷ filter test xs) (filter test xs)) ≡ false
    by true rest = ap₂ (λ a b. a || b) (left_false (p x) (list_any p xs) is) rest
    by false rest = rest

  -- of one scoping unit
  none_named : (e : Extent) (n : List ℕ) (ns : List (List ℕ)) → is_among n ns ≡ false → list_any (same_key (own e n)) (map (own e) ns) ≡ false
  none_named e n [] is = is
  none_named e n (m ∷ ns) is =
      ap₂ (λ a b. a || b)
      (ap (λ b. same_extent e e && b) (nat_list_eq_equiv.symm n m ∙ left_false (bytes_eq m n) (is_among n ns) is) ∙ and_false (same_extent e e))
      (none_named e n ns (right_false (bytes_eq m n) (is_among n ns) is))

  unit_apart : (e : Extent) (ns : List (List ℕ)) → AreApart ns → AreApartKeys (filter (λ key. is_constant (kind_of files key)) (map (own e) ns))
  unit_apart e [] apart = tt
  unit_apart e (n ∷ ns) apart = by (is_constant (kind_of files (own e n))) (unit_apart e ns apart.1) where
    by : (b : Bool) → AreApartKeys (filter (λ key. is_constant (kind_of files key)) (map (own e) ns))
        → AreApartKeys (cond b (own e n ∷ filter (λ key. is_constant (kind_of files key)) (map (own e) ns)) (filter (λ key. is_constant (kind_of files key)) (map (own e) ns)))
    by true rest = (none_filter (same_key (own e n)) (λ key. is_constant (kind_of files key)) (map (own e) ns) (none_named e n ns apart.0), rest)
    by false rest = rest

  -- of two
  none_other : (e x : Extent) (m : List ℕ) (ns : List (List ℕ)) → same_extent e x ≡ false → list_any (same_key (own e m)) (map (own x) ns) ≡ false
  none_other e x m [] differ = refl
  none_other e x m (n ∷ ns) differ = ap₂ (λ a b. (a && bytes_eq m n) || b) differ (none_other e x m ns differ)

  other_units : (e : Extent) (m : List ℕ) (es : List Extent) → Each (λ x. same_extent e x ≡ false) es → list_any (same_key (own e m)) (flat_map (constants_in files) es) ≡ false
  other_units e m [] all = refl
  other_units e m (x ∷ es) all =
      list_any-append (same_key (own e m)) (constants_in files x) (flat_map (constants_in files) es)
      ∙ ap₂ (λ a b. a || b)
      (none_filter (same_key (own e m)) (λ key. is_constant (kind_of files key)) (map (own x) (names_after [] (filter parameter (sayings files x)))) (none_other e x m (names_after [] (filter parameter (sayings files x))) all.0))
      (other_units e m es all.1)

  across : (e : Extent) (ns : List (List ℕ)) (ys : List Key) → ((m : List ℕ) → list_any (same_key (own e m)) ys ≡ false)
      → Each (λ key. list_any (same_key key) ys ≡ false) (filter (λ key. is_constant (kind_of files key)) (map (own e) ns))
  across e [] ys none = tt
  across e (n ∷ ns) ys none = by (is_constant (kind_of files (own e n))) (across e ns ys none) where
    by : (b : Bool) → Each (λ key. list_any (same_key key) ys ≡ false) (filter (λ key. is_constant (kind_of files key)) (map (own e) ns))
        → Each (λ key. list_any (same_key key) ys ≡ false) (cond b (own e n ∷ filter (λ key. is_constant (kind_of files key)) (map (own e) ns)) (filter (λ key. is_constant (kind_of files key)) (map (own e) ns)))
    by true rest = (none n, rest)
    by false rest = rest

  apart_flat : (i : ℕ) (es : List Extent) → ((k : ℕ) (x : Extent) → slice_get es k ≡ Some x → slice_get (scoping files) (i + k) ≡ Some x) → AreApartKeys (flat_map (constants_in files) es)
  apart_flat i [] stand = tt
  apart_flat i (e ∷ es) stand =
      apart_join (constants_in files e) (flat_map (constants_in files) es) (unit_apart e (names_after [] (filter parameter (sayings files e))) (all_apart (filter parameter (sayings files e))))
      (apart_flat (i + 1) es (λ k x is. ap (slice_get (scoping files)) (next i k) ∙ stand (suc k) x is))
      (across e (names_after [] (filter parameter (sayings files e))) (flat_map (constants_in files) es)
      (λ m. other_units e m es (different (i + 1) es (omega arith) (λ k x is. ap (slice_get (scoping files)) (next i k) ∙ stand (suc k) x is))))
    where
      next : (i k : ℕ) → i + 1 + k ≡ i + suc k
      next i k = omega arith

      plus : (i : ℕ) → i ≡ i + 0
      plus i = omega arith

      not_equal : (j i : ℕ) → i < j → (j == i) ≡ false
      not_equal j i less = grind (arith, nat_tests)

      different : (j : ℕ) (xs : List Extent) → i < j → ((k : ℕ) (x : Extent) → slice_get xs k ≡ Some x → slice_get (scoping files) (j + k) ≡ Some x) → Each (λ x. same_extent e x ≡ false) xs
      different j [] less there = tt
      different j (x ∷ xs) less there = (
        sym (told_apart files are i j e x (ap (slice_get (scoping files)) (plus i) ∙ stand 0 e refl) (ap (slice_get (scoping files)) (plus j) ∙ there 0 x refl)) ∙ not_equal j i less,
        different (j + 1) xs (omega (arith, less)) (λ k y is. ap (slice_get (scoping files)) (next j k) ∙ there (suc k) y is),
      )

  constants_apart : AreApartKeys (constants files)
  constants_apart = apart_flat 0 (scoping files) (λ k x is. ap (slice_get (scoping files)) (zero_plus k) ∙ is) where
    zero_plus : (k : ℕ) → 0 + k ≡ k
    zero_plus k = omega arith

  key_itself : (key : Key) → IsOwnConstant key → same_key key key ≡ true
  key_itself (own e name) constant = ap₂ (λ a b. a && b) (itself e) (nat_list_eq_equiv.refl name) where
    itself : (e : Extent) → same_extent e e ≡ true
    itself e = grind (arith, nat_tests)
  key_itself (unit e) constant = absurd constant
  key_itself (block b) constant = absurd constant
  key_itself (intrinsic_function name) constant = absurd constant

  turned : (one_key other : Key) → IsOwnConstant one_key → IsOwnConstant other → same_key one_key other ≡ false → same_key other one_key ≡ false
  turned (own e n) (own x m) a b is = ap₂ (λ p q. p && q) (extents e x) (nat_list_eq_equiv.symm m n) ∙ is where
    extents : (e x : Extent) → same_extent x e ≡ same_extent e x
    extents e x = grind (arith, nat_tests)
  turned (unit e) other a b is = absurd a
  turned (block c) other a b is = absurd a
  turned (intrinsic_function n) other a b is = absurd a
  turned (own e n) (unit x) a b is = absurd b
  turned (own e n) (block c) a b is = absurd b
  turned (own e n) (intrinsic_function m) a b is = absurd b

  place_key : (at : ℕ) (keys : List Key) (n : ℕ) (key : Key) → AreApartKeys keys → Each IsOwnConstant keys → slice_get keys n ≡ Some key → position_from (same_key key) at keys ≡ Some (at + n)
  place_key at [] n key apart all is = absurd (cc is)
  place_key at (x ∷ keys) zero key apart all is =
      let same : x ≡ key = cc is in
      let none : at ≡ at + 0 = omega arith in
      ap (λ y. cond (same_key key y) (Some at) (position_from (same_key key) (at + 1) keys)) same
      ∙ ap (λ b. cond b (Some at) (position_from (same_key key) (at + 1) keys)) (key_itself key (subst IsOwnConstant same all.0)) ∙ ap Some none
  place_key at (x ∷ keys) (suc n) key apart all is =
      let next : at + 1 + n ≡ at + suc n = omega arith in
      ap (λ b. cond b (Some at) (position_from (same_key key) (at + 1) keys))
      (turned x key all.0 (each_get IsOwnConstant keys n key all.1 is) (not_any (same_key x) keys n key apart.0 is))
      ∙ place_key (at + 1) keys n key apart.1 all.1 is ∙ ap Some next
    where
      not_any : (p : Key → Bool) (ks : List Key) (n : ℕ) (key : Key) → list_any p ks ≡ false → slice_get ks n ≡ Some key → p key ≡ false
      not_any p [] n key none is = absurd (cc is)
      not_any p (k ∷ ks) zero key none is = let same : k ≡ key = cc is in ap p (sym same) ∙ left_false (p k) (list_any p ks) none
      not_any p (k ∷ ks) (suc n) key none is = not_any p ks n key (right_false (p k) (list_any p ks) none) is

  -- the same constant
  same_constant : (e : Extent) → IsUnit files e → (name : List ℕ) (key : Key) → IsOwnConstant key → same_key (own e name) key ≡ true → key ≡ own e name
  same_constant e there name (unit x) constant is = absurd constant
  same_constant e there name (block b) constant is = absurd constant
  same_constant e there name (intrinsic_function n) constant is = absurd constant
  same_constant e there name (own x n) constant is =
      let parts = and_parts (same_extent e x) (bytes_eq name n) is in
      let first : scope_number files e ≡ Some (there.0) = number_there files are there.0 e there.1 in
      let other : scope_number files x ≡ Some (constant.0.0) = number_there files are constant.0.0 x constant.0.1 in
      let scopes : scope_number files e ≡ scope_number files x = same_number_of files e x parts.0 in
      let numbers : there.0 ≡ constant.0.0 = cc (first, other, scopes) in
      let units : x ≡ e = some_same (sym constant.0.1 ∙ ap (slice_get (scoping files)) (sym numbers) ∙ there.1) in
      ap₂ own units (sym (same_bytes name n parts.1))
    where
      some_same : {x y : Extent} → Some x ≡ Some y → x ≡ y
      some_same is = cc is

  -- a constant is among them
  listed : (e : Extent) → IsUnit files e → (name : List ℕ) → is_constant (kind_of files (own e name)) ≡ true → list_any (same_key (own e name)) (constants files) ≡ true
  listed e there name constant =
      any_flat (same_key (own e name)) (constants_in files) (scoping files)
      (any_get (λ x. list_any (same_key (own e name)) (constants_in files x)) (scoping files) there.0 e there.1 (in_unit (names_after [] (filter parameter (sayings files e))) among))
    where
      any_get : (p : Extent → Bool) (xs : List Extent) (k : ℕ) (x : Extent) → slice_get xs k ≡ Some x → p x ≡ true → list_any p xs ≡ true
      any_get p [] k x is passes = absurd (cc is)
      any_get p (y ∷ xs) zero x is passes = let same : y ≡ x = cc is in or_left (p y) (list_any p xs) (ap p same ∙ passes)
      any_get p (y ∷ xs) (suc k) x is passes = or_right (p y) (list_any p xs) (any_get p xs k x is passes)

      said : is_said parameter (said_of files e name) ≡ true
      said = (constant_said (has_result_at (layer_at files e.file e.opening)) (is_referenced files e name) (said_of files e name) constant).parameters

      -- one of its sayings is a parameter
      some_said : (all : List Saying) → is_said parameter (filter (same_name name) all) ≡ true → filter (same_name name) (filter parameter all) ≡ [] → ⊥
      some_said [] is none = cc is
      some_said (s ∷ all) is none = by (same_name name s) (parameter s) refl refl is none (some_said all) where
        by : (a b : Bool) → same_name name s ≡ a → parameter s ≡ b → is_said parameter (cond a (s ∷ filter (same_name name) all) (filter (same_name name) all)) ≡ true
            → filter (same_name name) (cond b (s ∷ filter parameter all) (filter parameter all)) ≡ []
            → (is_said parameter (filter (same_name name) all) ≡ true → filter (same_name name) (filter parameter all) ≡ [] → ⊥) → ⊥
        by true true named said is none rest =
            let no : cond true (s ∷ filter (same_name name) (filter parameter all)) (filter (same_name name) (filter parameter all)) ≡ [] =
            ap (λ b. cond b (s ∷ filter (same_name name) (filter parameter all)) (filter (same_name name) (filter parameter all))) (sym named) ∙ none in
            cc no
        by true false named said is none rest = rest (sym (ap (λ b. b || is_said parameter (filter (same_name name) all)) said) ∙ is) none
        by false true named said is none rest =
            rest is (ap (λ b. cond b (s ∷ filter (same_name name) (filter parameter all)) (filter (same_name name) (filter parameter all))) (sym named) ∙ none)
        by false false named said is none rest = rest is none

      among : is_among name (names_after [] (filter parameter (sayings files e))) ≡ true
      among = by (is_among name (names_after [] (filter parameter (sayings files e)))) refl where
        by : (b : Bool) → is_among name (names_after [] (filter parameter (sayings files e))) ≡ b → is_among name (names_after [] (filter parameter (sayings files e))) ≡ true
        by true is = is
        by false is = absurd (some_said (sayings files e) said (none_said [] (filter parameter (sayings files e)) name refl is))

      itself : same_extent e e ≡ true
      itself = grind (arith, nat_tests)

      in_unit : (ns : List (List ℕ)) → is_among name ns ≡ true → list_any (same_key (own e name)) (filter (λ key. is_constant (kind_of files key)) (map (own e) ns)) ≡ true
      in_unit [] is = absurd (cc is)
      in_unit (n ∷ ns) is = by (bytes_eq n name) refl is (in_unit ns) where
        keep : (b : Bool) → list_any (same_key (own e name)) (filter (λ key. is_constant (kind_of files key)) (map (own e) ns)) ≡ true
            → list_any (same_key (own e name)) (cond b (own e n ∷ filter (λ key. is_constant (kind_of files key)) (map (own e) ns)) (filter (λ key. is_constant (kind_of files key)) (map (own e) ns))) ≡ true
        keep true is = or_right (same_key (own e name) (own e n)) (list_any (same_key (own e name)) (filter (λ key. is_constant (kind_of files key)) (map (own e) ns))) is
        keep false is = is

        by : (b : Bool) → bytes_eq n name ≡ b → (b || is_among name ns) ≡ true → (is_among name ns ≡ true → list_any (same_key (own e name)) (filter (λ key. is_constant (kind_of files key)) (map (own e) ns)) ≡ true)
            → list_any (same_key (own e name)) (filter (λ key. is_constant (kind_of files key)) (map (own e) (n ∷ ns))) ≡ true
        by true same is rest =
            let here : is_constant (kind_of files (own e n)) ≡ true = ap (λ m. is_constant (kind_of files (own e m))) (same_bytes n name same) ∙ constant in
            ap (λ b. list_any (same_key (own e name)) (cond b (own e n ∷ filter (λ key. is_constant (kind_of files key)) (map (own e) ns)) (filter (λ key. is_constant (kind_of files key)) (map (own e) ns)))) here
            ∙ or_left (same_key (own e name) (own e n)) (list_any (same_key (own e name)) (filter (λ key. is_constant (kind_of files key)) (map (own e) ns)))
            (ap₂ (λ a b. a && b) itself (nat_list_eq_equiv.symm name n ∙ same))
        by false differ is rest = keep (is_constant (kind_of files (own e n))) (rest is)

  pub constant_numbered : (e : Extent) → IsUnit files e → (name : List ℕ) → is_constant (kind_of files (own e name)) ≡ true → (number : ℕ) × IsNumbered files (own e name) number
  constant_numbered e there name constant =
      let (n, at) = some_of (position (same_key (own e name)) (constants files)) (place_found (same_key (own e name)) (constants files) (listed e there name constant)) in
      let (key, here, passes) = found (same_key (own e name)) (constants files) n at in
      (n, record { number_is = at; there = here ∙ ap Some (same_constant e there name key (each_get IsOwnConstant (constants files) n key each_constant here) passes) })

  -- a constant is said, so its name is numbered
  pub constant_named : (e : Extent) → IsUnit files e → (name : List ℕ) → is_constant (kind_of files (own e name)) ≡ true → (number label : ℕ) × IsNamed files (own e name) number label
  constant_named e there name constant =
      let (number, numbered) = constant_numbered e there name constant in
      let (n, here, is) = named_there e there name (among (is_among name (names_after [] (sayings files e))) refl) in
      (number, n, record { constant = numbered; datum = datum e name; key_is = refl; there = here; name_is = is; kind = constant })
    where
      said : is_said parameter (said_of files e name) ≡ true
      said = (constant_said (has_result_at (layer_at files e.file e.opening)) (is_referenced files e name) (said_of files e name) constant).parameters

      among : (b : Bool) → is_among name (names_after [] (sayings files e)) ≡ b → is_among name (names_after [] (sayings files e)) ≡ true
      among true is = is
      among false is =
          let none : said_of files e name ≡ [] = none_said [] (sayings files e) name refl is in
          let no : is_said parameter [] ≡ true = sym (ap (is_said parameter) none) ∙ said in
          absurd (cc no)

  pub are_numbered : AreNumbered files
  are_numbered = record {
    constant = λ file token key is constant. let d = denoted_at file token key is in of_constant key d.denoting.name d.real constant;
    only = λ file token key number is numbered. let d = denoted_at file token key is in only_constant key d.denoting.name d.real number numbered;
    named = λ name d there constant.
        let o = datum_owner files name d there in
        let (number, numbered) = constant_numbered d.scope (o.scope, o.there) d.name constant in (
          number,
          record {
            constant = numbered;
            datum = d;
            key_is = refl;
            there = there;
            name_is = ap (option_and_then (λ scope. number_of (all_said files) scope d.name)) (number_there files are o.scope d.scope o.there) ∙ o.number;
            kind = constant;
          },
        );
    all = λ number key there. of_number key (each_get IsOwnConstant (constants files) number key each_constant there) number there;
  } where
    of_number : (key : Key) → IsOwnConstant key → (number : ℕ) → slice_get (constants files) number ≡ Some key → (label : ℕ) × IsNamed files key number label
    of_number (own e name) constant number there =
        let (first, n, named) = constant_named e constant.0 name constant.1 in
        let place : constant_number files (own e name) ≡ Some number =
        position_from-zero (same_key (own e name)) (constants files) ∙ place_key 0 (constants files) number (own e name) constants_apart each_constant there ∙ ap Some (zero_plus number) in
        (n, record { constant = record { number_is = place; there = there }; datum = named.datum; key_is = named.key_is; there = named.there; name_is = named.name_is; kind = named.kind })
      where
        zero_plus : (k : ℕ) → 0 + k ≡ k
        zero_plus k = omega arith
    of_number (unit e) constant number there = absurd constant
    of_number (block b) constant number there = absurd constant
    of_number (intrinsic_function name) constant number there = absurd constant

    of_constant : (key : Key) (name : List ℕ) → IsRealFor files name key → is_constant (kind_of files key) ≡ true → (number label : ℕ) × IsNamed files key number label
    of_constant (unit e) name real constant = absurd (cc (constant, unit_not_constant (layer_at files e.file e.opening)))
    of_constant (own e n) name real constant = constant_named e real.0 n constant
    of_constant (block b) name real constant = absurd (cc constant)
    of_constant (intrinsic_function n) name real constant = absurd (cc constant)

    not_own : (key other : Key) → IsOwnConstant other → same_key key other ≡ true → (e : Extent) × (name : List ℕ) × (key ≡ own e name)
    not_own (own e name) other constant is = (e, name, refl)
    not_own (unit e) (own x n) constant is = absurd (cc is)
    not_own (block b) (own x n) constant is = absurd (cc is)
    not_own (intrinsic_function name) (own x n) constant is = absurd (cc is)
    not_own (unit e) (unit x) constant is = absurd constant
    not_own (unit e) (block b) constant is = absurd constant
    not_own (unit e) (intrinsic_function n) constant is = absurd constant
    not_own (block c) (unit x) constant is = absurd constant
    not_own (block c) (block b) constant is = absurd constant
    not_own (block c) (intrinsic_function n) constant is = absurd constant
    not_own (intrinsic_function m) (unit x) constant is = absurd constant
    not_own (intrinsic_function m) (block b) constant is = absurd constant
    not_own (intrinsic_function m) (intrinsic_function n) constant is = absurd constant

    kind_same : (e : Extent) → IsUnit files e → (name : List ℕ) (other : Key) → IsOwnConstant other → same_key (own e name) other ≡ true → is_constant (kind_of files (own e name)) ≡ true
    kind_same e there name other constant is = by other (same_constant e there name other constant is) constant where
      by : (other : Key) → other ≡ own e name → IsOwnConstant other → is_constant (kind_of files (own e name)) ≡ true
      by (own x n) same constant = sym (ap (λ key. is_constant (kind_of files key)) same) ∙ constant.1
      by (unit x) same constant = absurd constant
      by (block b) same constant = absurd constant
      by (intrinsic_function n) same constant = absurd constant

    only_constant : (key : Key) (name : List ℕ) → IsRealFor files name key → (number : ℕ) → constant_number files key ≡ Some number → is_constant (kind_of files key) ≡ true
    only_constant key name real number is =
        let (other, here, passes) = found (same_key key) (constants files) number is in
        let constant = each_get IsOwnConstant (constants files) number other each_constant here in
        by key real other constant passes
      where
        by : (key : Key) → IsRealFor files name key → (other : Key) → IsOwnConstant other → same_key key other ≡ true → is_constant (kind_of files key) ≡ true
        by (own e n) real other constant passes = kind_same e real.0 n other constant passes
        by (unit e) real other constant passes = let (x, n, same) = not_own (unit e) other constant passes in absurd (cc same)
        by (block b) real other constant passes = let (x, n, same) = not_own (block b) other constant passes in absurd (cc same)
        by (intrinsic_function m) real other constant passes = let (x, n, same) = not_own (intrinsic_function m) other constant passes in absurd (cc same)
