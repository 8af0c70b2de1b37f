-- What an occurrence of a name denotes has a number of its own.
use Rattle.std.proofs.Common.{◌≡◌, ℕ, zero, suc, Bool, true, false, cond, List, [], ◌∷◌, filter, fold, map, length, Option, Some, None, refl, sym, ap, ◌∙◌, subst, ◌⊎◌, inl, inr}
use Rattle.std.specs.Prelude.{◌&&◌, ◌||◌, ◌==◌, nat_le, not, slice_get}
use Rattle.std.specs.List.{flat_map, find, enumerate_from, last_or, list_any, range_with_len, AllByRecursion as Each}
use Rattle.std.specs.Option.{is_some, option_map, option_map_or, unwrap_or}
use Rattle.std.specs.Str.{bytes_eq}
use Rattle.std.specs.Cmp.Lexicographic.{nat_list_eq_equiv}
use Rattle.std.proofs.lemmas.Bool.{and_parts, eqb-true}
use Rattle.std.proofs.lemmas.Option.{slice_get-map}
use Rattle.ftn_base.specs.Accessible.{entities_of, exports_of}
use Rattle.ftn_base.specs.Exports.{PairOf}
use Rattle.ftn_base.specs.Keywords.{is_intrinsic}
use Rattle.ftn_tree.specs.declared.mention.Mention.{Mention}
use Rattle.ftn_tree.specs.declared.mention.Role.{Role}
use Rattle.ftn_tree.specs.declared.mention.Role.TheVariants as role
use Rattle.ftn_tree.specs.declared.table.Extent.{Extent}
use Rattle.ftn_tree.specs.declared.table.Occurrence.{Occurrence}
use Rattle.ftn_tree.specs.declared.unit.FileTree.{FileTree}
use Rattle.ftn_tree.specs.Bindings.{Denoting, denoting, denotings, denotings_in, meaning_by, occurrence_meaning, opened_meaning, ended_meaning, block_meaning, module_meaning, keys_at, item_keys, keys_by_tokens, module_token, item_tokens}
use Rattle.ftn_tree.specs.DeclaredEntities.{is_said, is_referenced, is_typed_alone, has_result_at, occurrence, occurrences_of}
use Rattle.ftn_tree.specs.Extents.{covers, scoping, scope_of, layer_at, is_body, host_of, is_some_extent}
use Rattle.ftn_tree.specs.GlobalNames.{Global, blocks, same_name as same_global, before, place, program_units, has_no_host}
use Rattle.ftn_tree.specs.Layers.{FormLayer}
use Rattle.ftn_tree.specs.Meanings as spec
use Rattle.ftn_tree.specs.Meanings.{Key, unit, own, block, intrinsic_function, Meaning, nothing, one, several, unknown}
use Rattle.ftn_tree.specs.Roles.{says}
use Rattle.ftn_tree.specs.Sayings.{Saying, sayings, same_name, mentions_at, dummy, answer, external, body, outside, inside, declares}
use Rattle.ftn_tree.specs.Scopes.{chain, name_at, scope_kind, scope_name}
use Rattle.scope_bind.specs.steps.Globals.{no_extent}
use Rattle.scope_bind.specs.steps.NameFaults.{IsNumberedMeaning, IsMember}
use Rattle.scope_bind.specs.steps.Numbering.{IsNumbered, name_occurrence}
use Rattle.scope_bind.proofs.Members.{each_append, each_at, each_filter, each_flat, each_map, each_of, each_passed, each_weaker, place_found}
use Rattle.scope_bind.proofs.Natural.{KnownPairs, accessible_known, entities_known, exported_known}
use Rattle.scope_bind.proofs.OwnKeys.{HasNumber, IsFine, accessible_numbered, all_exports_numbered, declared_fine, external_fine, known_fine, letter_fine, units_numbered}
use Rattle.scope_bind.proofs.OwnOccurrences.{Occurs, occur_at}

-- ---- a scoping unit says of a name that it is its own entity, or that intrinsic function, and no block

abbrev pub Says : Extent → List ℕ → Meaning → Type 0
Says e name (one (own x other)) = x ≡ e
Says e name (one (block b)) = ⊥
Says e name (one (intrinsic_function other)) = other ≡ name
Says e name (several first second rest) = ⊥
Says e name other = Unit {0}

module _ (e : Extent) (name : List ℕ) where
  says_if : (b : Bool) (first other : Meaning) → Says e name first → Says e name other → Says e name (cond b first other)
  says_if true first other is there = is
  says_if false first other is there = there

  pub says_unit : (found : Option Extent) → Says e name (spec.known (option_map unit found))
  says_unit None = tt
  says_unit (Some x) = tt

  says_intrinsic : (found : Option Extent) → Says e name (spec.known (spec.or_else (spec.intrinsic_of name) (option_map unit found)))
  says_intrinsic found = by (is_intrinsic name) where
    by : (b : Bool) → Says e name (spec.known (spec.or_else (cond b (Some (intrinsic_function name)) None) (option_map unit found)))
    by true = refl
    by false = says_unit found

  says_alone : Says e name (spec.known (spec.intrinsic_of name))
  says_alone = by (is_intrinsic name) where
    by : (b : Bool) → Says e name (spec.known (cond b (Some (intrinsic_function name)) None))
    by true = refl
    by false = tt

  module _ (files : List FileTree) where
    says_outside : (said : List Saying) → Says e name (spec.outside_meaning files name said)
    says_outside said = says_if (is_said external said || is_said body said) _ _ (says_unit (spec.unit_of files spec.is_procedure name)) says_alone

    says_result : Says e name (spec.result_meaning files e name)
    says_result =
        says_if (has_result_at (layer_at files e.file e.opening)) (one (own e name)) _ refl
        (says_if (is_body files e) _ (one (unit e)) (says_unit (spec.unit_of files spec.is_procedure name)) tt)

    says_meaning : (said : List Saying) → Says e name (spec.declared_meaning files e name said)
    says_meaning said =
        says_if (is_said dummy said) (one (own e name)) _ refl
        (says_if (is_said answer said) _ _ says_result
        (says_if (is_said (λ s. says role.Inner s.said) said) _ _ (says_unit (spec.inner_of files e name))
        (says_if (is_said inside said) (one (own e name)) _ refl
        (says_if (is_said outside said) _ _ (says_outside said)
        (says_if (is_referenced files e name && is_typed_alone said) _ _ (says_intrinsic (spec.unit_of files spec.is_function name))
        (says_if (is_said declares said) (one (own e name)) nothing refl tt))))))

    pub says_declared : Says e name (spec.declared_in files e name)
    says_declared = says_meaning (filter (same_name name) (sayings files e))

    pub says_letter : Says e name (spec.letter_meaning files e name)
    says_letter = says_if (spec.stands_plain files e name) (one (own e name)) nothing refl tt

-- ---- what modules export and USE makes accessible are such entities

module _ (files : List FileTree) where
  abbrev AreMembers : List (PairOf Key) → Type 0
  AreMembers pairs = KnownPairs (IsMember files) pairs

  abbrev IsUnit : Extent → Type 0
  IsUnit e = (j : ℕ) × (slice_get (scoping files) j ≡ Some e)

  module _ (e : Extent) (there : IsUnit e) where
    own_member : (name : List ℕ) (meaning : Meaning) → Says e name meaning → AreMembers (spec.pair_if_own files e name meaning)
    own_member name nothing says = tt
    own_member name unknown says = tt
    own_member name (several first second rest) says = tt
    own_member name (one (block b)) says = tt
    own_member name (one (intrinsic_function n)) says = tt
    own_member name (one (unit x)) says = by (is_some_extent e (host_of files x)) where
      by : (b : Bool) → AreMembers (option_map_or (λ key. (name, key) ∷ []) (cond b (Some (unit x)) None) [])
      by true = (tt, tt)
      by false = tt
    own_member name (one (own x n)) says = by (is_some_extent e (Some x)) where
      by : (b : Bool) → AreMembers (option_map_or (λ key. (name, key) ∷ []) (cond b (Some (own x n)) None) [])
      by true = ((there.0, there.1 ∙ ap Some (sym says)), tt)
      by false = tt

    put_member : (pair : PairOf Key) (pairs : List (PairOf Key)) → IsMember files pair.1 → AreMembers pairs → AreMembers (spec.put_in_place files e pair pairs)
    put_member pair [] first all = (first, tt)
    put_member pair (x ∷ pairs) first all = by (before (place e.file (spec.begins_at files e pair)) (place e.file (spec.begins_at files e x))) (put_member pair pairs first all.1) where
      by : (b : Bool) → AreMembers (spec.put_in_place files e pair pairs) → AreMembers (cond b (pair ∷ x ∷ pairs) (x ∷ spec.put_in_place files e pair pairs))
      by true more = (first, all)
      by false more = (all.0, more)

    in_place_member : (pairs : List (PairOf Key)) → AreMembers pairs → AreMembers (spec.in_place files e pairs)
    in_place_member [] all = tt
    in_place_member (pair ∷ pairs) all = put_member pair (spec.in_place files e pairs) all.0 (in_place_member pairs all.1)

    letter_member : (accessible : List (PairOf Key)) (name : List ℕ) → AreMembers (spec.letter_pairs files accessible e nothing name)
    letter_member accessible name = by (spec.is_nothing (spec.or_meaning (spec.declared_in files e name) (spec.or_meaning (spec.used_meaning (spec.keys_of name accessible)) nothing))) where
      by : (b : Bool) → AreMembers (cond b (spec.pair_if_own files e name (spec.letter_meaning files e name)) [])
      by true = own_member name (spec.letter_meaning files e name) (says_letter e name files)
      by false = tt

    own_members : (accessible : List (PairOf Key)) → AreMembers (spec.own_pairs files accessible e)
    own_members accessible =
        each_append (λ pair. IsMember files pair.1) (spec.declared_pairs files e) (spec.in_place files e (flat_map (spec.letter_pairs files accessible e nothing) (spec.names_in files e)))
        (in_place_member (flat_map (λ name. spec.pair_if_own files e name (spec.declared_in files e name)) (spec.names_said_in files e))
        (each_flat (λ pair. IsMember files pair.1) (λ name. spec.pair_if_own files e name (spec.declared_in files e name)) (spec.names_said_in files e)
        (each_of (λ name. AreMembers (spec.pair_if_own files e name (spec.declared_in files e name))) (λ name. own_member name (spec.declared_in files e name) (says_declared e name files)) (spec.names_said_in files e))))
        (in_place_member (flat_map (spec.letter_pairs files accessible e nothing) (spec.names_in files e))
        (each_flat (λ pair. IsMember files pair.1) (spec.letter_pairs files accessible e nothing) (spec.names_in files e)
        (each_of (λ name. AreMembers (spec.letter_pairs files accessible e nothing name)) (letter_member accessible) (spec.names_in files e))))

  modules_there : Each IsUnit (spec.module_numbered files)
  modules_there =
      each_filter IsUnit (λ e. spec.is_module (scope_kind files e)) (program_units files) (each_filter IsUnit (has_no_host files) (scoping files) (all_there (scoping files)))
    where
      all_there : (xs : List Extent) → Each (λ x. (j : ℕ) × (slice_get xs j ≡ Some x)) xs
      all_there [] = tt
      all_there (x ∷ xs) = ((0, refl), each_weaker (λ y. (j : ℕ) × (slice_get xs j ≡ Some y)) (λ y. (j : ℕ) × (slice_get (x ∷ xs) j ≡ Some y)) (λ y at. (suc at.0, at.1)) xs (all_there xs))

  exports_members : (rounds number : ℕ) → AreMembers (exports_of (spec.exports_after files rounds) number)
  exports_members zero number =
      subst (λ (o : Option (List (PairOf Key))). KnownPairs (IsMember files) (unwrap_or o [])) (sym (slice_get-map (λ e. []) (spec.module_numbered files) number))
      (none (slice_get (spec.module_numbered files) number))
    where
      none : (found : Option Extent) → KnownPairs (IsMember files) (unwrap_or (option_map (λ (e : Extent). []) found) [])
      none None = tt
      none (Some e) = tt
  exports_members (suc rounds) number =
      subst (λ (o : Option (List (PairOf Key))). KnownPairs (IsMember files) (unwrap_or o [])) (sym (slice_get-map (spec.exports_from files (spec.exports_after files rounds)) (spec.module_numbered files) number))
      (by (slice_get (spec.module_numbered files) number) refl (exports_members rounds))
    where
      by : (found : Option Extent) → slice_get (spec.module_numbered files) number ≡ found → ((n : ℕ) → KnownPairs (IsMember files) (exports_of (spec.exports_after files rounds) n))
          → KnownPairs (IsMember files) (unwrap_or (option_map (spec.exports_from files (spec.exports_after files rounds)) found) [])
      by None at again = tt
      by (Some e) at again =
          let accessible = spec.accessible_from files (spec.exports_after files rounds) e in
          exported_known (IsMember files) (spec.own_pairs files accessible e) accessible (spec.access_of files e)
          (own_members e (each_at IsUnit (spec.module_numbered files) number e modules_there at) accessible)
          (accessible_known (IsMember files) spec.same_key (spec.exports_after files rounds) (spec.use_lists files e) again)

  both : (keys : List Key) → Each (IsNumbered files) keys → Each (IsMember files) keys → Each (λ key. IsNumbered files key × IsMember files key) keys
  both [] numbers members = tt
  both (key ∷ keys) numbers members = ((numbers.0, members.0), both keys numbers.1 members.1)

  pub exported_fine : (number : ℕ) (name : List ℕ) → Each (λ key. IsNumbered files key × IsMember files key) (entities_of (exports_of (spec.all_exports files) number) name)
  exported_fine number name =
      both (entities_of (exports_of (spec.all_exports files) number) name)
      (entities_known (IsNumbered files) (exports_of (spec.all_exports files) number) name (all_exports_numbered files number))
      (entities_known (IsMember files) (exports_of (spec.all_exports files) number) name (exports_members (length (spec.module_numbered files)) number))

  pub accessible_fine : (e : Extent) (name : List ℕ) → Each (λ key. IsNumbered files key × IsMember files key) (spec.keys_of name (spec.accessible_in files e))
  accessible_fine e name =
      both (spec.keys_of name (spec.accessible_in files e))
      (entities_known (IsNumbered files) (spec.accessible_in files e) name (accessible_numbered files e))
      (entities_known (IsMember files) (spec.accessible_in files e) name
      (accessible_known (IsMember files) spec.same_key (spec.all_exports files) (spec.use_lists files e) (exports_members (length (spec.module_numbered files)))))

-- ---- a name

-- what is told of it has numbers of its own, but for the intrinsic function of that name
abbrev pub FineKey : List FileTree → List ℕ → Key → Type 0
FineKey files name (intrinsic_function other) = (other ≡ name) ⊎ IsNumbered files (intrinsic_function other)
FineKey files name key = IsNumbered files key

abbrev pub FineMeaning : List FileTree → List ℕ → Meaning → Type 0
FineMeaning files name (one key) = FineKey files name key
FineMeaning files name (several first second rest) = IsNumbered files second × IsMember files second
FineMeaning files name other = Unit {0}

module _ (files : List FileTree) (name : List ℕ) where
  fine_key : (key : Key) → IsNumbered files key → FineKey files name key
  fine_key (unit e) is = is
  fine_key (own e n) is = is
  fine_key (block b) is = is
  fine_key (intrinsic_function n) is = inr is

  from_fine : (e : Extent) (meaning : Meaning) → IsFine files meaning → Says e name meaning → FineMeaning files name meaning
  from_fine e nothing fine said = tt
  from_fine e unknown fine said = tt
  from_fine e (one (unit x)) fine said = fine
  from_fine e (one (own x n)) fine said = fine
  from_fine e (one (block b)) fine said = absurd said
  from_fine e (one (intrinsic_function n)) fine said = inl said
  from_fine e (several first second rest) fine said = absurd said

  or_fine : (first other : Meaning) → FineMeaning files name first → FineMeaning files name other → FineMeaning files name (spec.or_meaning first other)
  or_fine nothing other is there = there
  or_fine (one key) other is there = is
  or_fine (several first second rest) other is there = is
  or_fine unknown other is there = is

  used_fine : (keys : List Key) → Each (λ key. IsNumbered files key × IsMember files key) keys → FineMeaning files name (spec.used_meaning keys)
  used_fine [] all = tt
  used_fine (key ∷ []) all = fine_key key all.0.0
  used_fine (key ∷ other ∷ rest) all = all.1.0

  if_fine : (b : Bool) (first other : Meaning) → FineMeaning files name first → FineMeaning files name other → FineMeaning files name (cond b first other)
  if_fine true first other is there = is
  if_fine false first other is there = there

  module _ (e : Extent) (has : HasNumber files e) where
    in_fine : (around : Meaning) → FineMeaning files name around → FineMeaning files name (spec.meaning_in files (spec.accessible_in files e) e name around)
    in_fine around is =
        or_fine (spec.declared_in files e name) _
        (from_fine e (spec.declared_in files e name) (declared_fine files e has name) (says_declared e name files))
        (or_fine (spec.used_meaning (spec.keys_of name (spec.accessible_in files e))) _
        (used_fine (spec.keys_of name (spec.accessible_in files e)) (accessible_fine files e name))
        (or_fine (cond (is_body files e) nothing around) (spec.letter_meaning files e name)
        (if_fine (is_body files e) nothing around tt is)
        (from_fine e (spec.letter_meaning files e name) (letter_fine files e has name) (says_letter e name files))))

  all_fine : (es : List Extent) → Each (HasNumber files) es → (around : Meaning) → FineMeaning files name around
      → FineMeaning files name (fold (λ around one. spec.meaning_in files (spec.accessible_in files one) one name around) around es)
  all_fine [] all around is = is
  all_fine (e ∷ es) all around is = all_fine es all.1 (spec.meaning_in files (spec.accessible_in files e) e name around) (in_fine e all.0 around is)

  pub denotes_fine : (e : Extent) → FineMeaning files name (spec.denotes files e name)
  denotes_fine e = all_fine (chain files e) (each_filter (HasNumber files) (covers e.file e.opening) (scoping files) (units_numbered files)) nothing tt

  external_fine_too : FineMeaning files name (spec.known (spec.external_of files name))
  external_fine_too = from_fine no_extent (spec.known (spec.external_of files name)) (external_fine files name) (says_unit no_extent name (spec.unit_of files spec.is_procedure name))

  or_else_fine : FineMeaning files name (spec.known (spec.or_else (spec.intrinsic_of name) (spec.external_of files name)))
  or_else_fine = by (is_intrinsic name) where
    by : (b : Bool) → FineMeaning files name (spec.known (spec.or_else (cond b (Some (intrinsic_function name)) None) (spec.external_of files name)))
    by true = inl refl
    by false = external_fine_too

  reference_fine : (m : Mention) → FineMeaning files name (spec.reference_meaning files m name)
  reference_fine m =
      if_fine (says role.Called m) _ _ external_fine_too
      (if_fine (says role.Parenthesised m && not (says role.Given m)) _ unknown or_else_fine tt)

-- ---- a name that occurs

module _ (files : List FileTree) (name : List ℕ) (occurs : is_some (name_occurrence files name) ≡ true) where
  numbered_key : (key : Key) → FineKey files name key → IsNumbered files key
  numbered_key (unit e) is = is
  numbered_key (own e n) is = is
  numbered_key (block b) is = is
  numbered_key (intrinsic_function n) (inl same) = subst (λ m. is_some (name_occurrence files m) ≡ true) (sym same) occurs
  numbered_key (intrinsic_function n) (inr is) = is

  numbered : (meaning : Meaning) → FineMeaning files name meaning → IsNumberedMeaning files meaning
  numbered nothing fine = tt
  numbered unknown fine = tt
  numbered (one key) fine = numbered_key key fine
  numbered (several first second rest) fine = fine

  block_numbered : IsNumberedMeaning files (block_meaning files name)
  block_numbered = by (list_any (λ (g : Global). same_global g.name (Some name)) (blocks files)) where
    by : (b : Bool) → IsNumberedMeaning files (cond b (one (block (Some name))) unknown)
    by true = occurs
    by false = tt

  module_numbered : IsNumberedMeaning files (module_meaning files name)
  module_numbered =
      numbered (module_meaning files name)
      (from_fine files name no_extent (module_meaning files name) (known_fine files spec.is_module name (spec.unit_of files spec.is_module name) refl) (says_unit no_extent name (spec.unit_of files spec.is_module name)))

-- ---- at a mention

module _ (files : List FileTree) where
  known_unit_numbered : (name : List ℕ) → IsNumberedMeaning files (spec.known (spec.external_of files name))
  known_unit_numbered name = by (spec.unit_of files spec.is_procedure name) (external_fine files name) where
    by : (found : Option Extent) → IsFine files (spec.known (option_map unit found)) → IsNumberedMeaning files (spec.known (option_map unit found))
    by None fine = tt
    by (Some e) fine = fine

  module _ (e : Extent) (has : HasNumber files e) where
    opened_numbered : IsNumberedMeaning files (opened_meaning files e)
    opened_numbered = by (is_body files e) where
      by : (b : Bool) → IsNumberedMeaning files (cond b (spec.known (spec.external_of files (scope_name files e))) (one (unit e)))
      by true = known_unit_numbered (scope_name files e)
      by false = has

    keys_numbered : (statement : ℕ) (m : Mention) → Each (λ key. IsNumbered files key × IsMember files key) (keys_at files e statement m)
    keys_numbered statement m = by_layer (layer_at files e.file statement) where
      by_number : (number : Option ℕ) (source : List ℕ) → Each (λ key. IsNumbered files key × IsMember files key) (option_map_or (λ n. entities_of (exports_of (spec.all_exports files) n) source) number [])
      by_number None source = tt
      by_number (Some n) source = exported_fine files n source

      by_tokens : (token : Option ℕ) (item : Option (ℕ × ℕ)) → Each (λ key. IsNumbered files key × IsMember files key) (keys_by_tokens files e.file token item)
      by_tokens None item = tt
      by_tokens (Some token) None = tt
      by_tokens (Some token) (Some item) = by_number (spec.module_number files (name_at files e.file token)) (name_at files e.file item.1)

      by_layer : (layer : Option FormLayer) → Each (λ key. IsNumbered files key × IsMember files key) (item_keys files e.file layer m.token)
      by_layer None = tt
      by_layer (Some form) = by_tokens (module_token form) (find (λ item. item.0 == m.token) (item_tokens form))

    first_numbered : (keys : List Key) → Each (λ key. IsNumbered files key × IsMember files key) keys → IsNumberedMeaning files (spec.known (slice_get keys 0))
    first_numbered [] all = tt
    first_numbered (key ∷ keys) all = all.0.0

    module _ (statement : ℕ) (m : Mention) (occurs : is_some (name_occurrence files (name_at files e.file m.token)) ≡ true) where
      at_numbered : IsNumberedMeaning files (spec.meaning_at files e m)
      at_numbered =
          numbered files (name_at files e.file m.token) occurs (spec.meaning_at files e m)
          (or_fine files (name_at files e.file m.token) (spec.denotes files e (name_at files e.file m.token)) (spec.reference_meaning files m (name_at files e.file m.token))
          (denotes_fine files (name_at files e.file m.token) e) (reference_fine files (name_at files e.file m.token) m))

      ended_numbered : IsNumberedMeaning files (ended_meaning files e statement m)
      ended_numbered = by (statement == e.ending) where
        by : (b : Bool) → IsNumberedMeaning files (cond b (opened_meaning files e) (spec.meaning_at files e m))
        by true = opened_numbered
        by false = at_numbered

      by_role : (r : Role) → IsNumberedMeaning files (meaning_by r files e statement m)
      by_role role.Opens = opened_numbered
      by_role role.Ends = ended_numbered
      by_role role.Slash = block_numbered files (name_at files e.file m.token) occurs
      by_role role.Module = module_numbered files (name_at files e.file m.token) occurs
      by_role role.Source =
          numbered files (name_at files e.file m.token) occurs (spec.used_meaning (keys_at files e statement m))
          (used_fine files (name_at files e.file m.token) (keys_at files e statement m) (keys_numbered statement m))
      by_role role.Local = first_numbered (keys_at files e statement m) (keys_numbered statement m)
      by_role other = at_numbered

  -- ---- at an occurrence

  last_each : {X : Type 0} (P : X → Type 0) (o : Option X) (xs : List X) (x : X) → ((y : X) → o ≡ Some y → P y) → Each P xs → last_or o xs ≡ Some x → P x
  last_each P o [] x first all is = first x is
  last_each P o (y ∷ xs) x first all is = last_each P (Some y) xs x (λ z same. let equal : y ≡ z = cc same in subst P equal all.0) all.1 is

  pub scope_fine : (file statement : ℕ) (e : Extent) → scope_of files file statement ≡ Some e → HasNumber files e × (e.file ≡ file)
  scope_fine file statement e is =
      let (has, covered) = last_each (λ x. HasNumber files x × (covers file statement x ≡ true)) None (filter (covers file statement) (scoping files)) e (λ y none. absurd (cc none))
      (each_passed (HasNumber files) (covers file statement) (scoping files) (units_numbered files)) is in
      (has, in_file e covered)
    where
      in_file : (x : Extent) → covers file statement x ≡ true → x.file ≡ file
      in_file x covered = eqb-true x.file file (and_parts (x.file == file) (nat_le x.opening statement) (and_parts ((x.file == file) && nat_le x.opening statement) (nat_le statement x.ending) covered).0).0

  pub occurs_at : (file statement : ℕ) (m : Mention) → Occurs files file statement m → is_some (name_occurrence files (name_at files file m.token)) ≡ true
  occurs_at file statement m occurs =
      place_found (λ (o : Occurrence). bytes_eq o.name (name_at files file m.token)) (occurrences_of files)
      (occurs (λ (o : Occurrence). bytes_eq o.name (name_at files file m.token)) (nat_list_eq_equiv.refl (name_at files file m.token)))

  pub mention_numbered : (file statement : ℕ) (m : Mention) → Occurs files file statement m → IsNumberedMeaning files (occurrence_meaning files file statement m)
  mention_numbered file statement m occurs = by (scope_of files file statement) refl where
    by : (found : Option Extent) → scope_of files file statement ≡ found → IsNumberedMeaning files (option_map_or (λ e. meaning_by m.role files e statement m) found unknown)
    by None is = tt
    by (Some e) is =
        let (has, same) = scope_fine file statement e is in
        by_role e has statement m (subst (λ (f : ℕ). is_some (name_occurrence files (name_at files f m.token)) ≡ true) (sym same) (occurs_at file statement m occurs)) m.role

  pub denotings_numbered : Each (λ (d : Denoting). IsNumberedMeaning files d.meaning) (denotings files)
  denotings_numbered =
      each_flat (λ (d : Denoting). IsNumberedMeaning files d.meaning) (λ numbered. denotings_in files numbered.0 numbered.1) (enumerate_from 0 files)
      (each_of (λ numbered. Each (λ (d : Denoting). IsNumberedMeaning files d.meaning) (denotings_in files numbered.0 numbered.1)) (λ numbered. in_file numbered.0 numbered.1) (enumerate_from 0 files))
    where
      in_file : (file : ℕ) (tree : FileTree) → Each (λ (d : Denoting). IsNumberedMeaning files d.meaning) (denotings_in files file tree)
      in_file file tree =
          each_flat (λ (d : Denoting). IsNumberedMeaning files d.meaning) (λ statement. map (denoting files file statement) (mentions_at files file statement)) (range_with_len 0 (length tree.statements))
          (each_of (λ statement. Each (λ (d : Denoting). IsNumberedMeaning files d.meaning) (map (denoting files file statement) (mentions_at files file statement)))
          (λ statement. each_map (λ (d : Denoting). IsNumberedMeaning files d.meaning) (denoting files file statement) (mentions_at files file statement)
          (each_weaker (Occurs files file statement) (λ m. IsNumberedMeaning files (occurrence_meaning files file statement m)) (mention_numbered file statement) (mentions_at files file statement) (occur_at files file statement)))
          (range_with_len 0 (length tree.statements)))
