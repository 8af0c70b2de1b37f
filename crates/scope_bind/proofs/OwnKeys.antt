-- The keys of a module's own names, and so of all that modules export and USE makes accessible, have numbers of their own.
use Rattle.std.proofs.Common.{◌≡◌, ℕ, zero, suc, ◌==◌, nat_eq, Bool, true, false, cond, List, [], ◌∷◌, ◌++◌, filter, map, length, Option, Some, None, slice_get, option_map, refl, sym, ap, ap₂, subst, ◌∙◌, ◌⊎◌, inl, inr}
use Rattle.std.specs.Prelude.{◌&&◌, ◌||◌, not}
use Rattle.std.specs.List.{find, flat_map, list_any, position, AllByRecursion as Each}
use Rattle.std.specs.Option.{is_some, option_and_then, option_map_or, unwrap_or}
use Rattle.std.specs.Str.{bytes_eq}
use Rattle.std.proofs.lemmas.Bool.{and_parts, cases_Bool}
use Rattle.std.proofs.lemmas.Option.{slice_get-map}
use Rattle.ftn_base.specs.Keywords.{is_intrinsic}
use Rattle.ftn_base.specs.Accessible.{exports_of}
use Rattle.ftn_base.specs.Exports.{PairOf}
use Rattle.ftn_tree.specs.declared.mention.Mention.{Mention}
use Rattle.ftn_tree.specs.declared.mention.Role.TheVariants as role
use Rattle.ftn_tree.specs.declared.table.Extent.{Extent}
use Rattle.ftn_tree.specs.declared.unit.FileTree.{FileTree}
use Rattle.ftn_tree.specs.DeclaredEntities.{has_result_at, is_named, is_referenced, is_said, is_typed_alone, own_mentions}
use Rattle.ftn_tree.specs.Extents.{host_of, is_body, is_some_extent, layer_at, same_extent, scope_of, scoping}
use Rattle.ftn_tree.specs.GlobalNames.{before, has_no_host, place, program_units}
use Rattle.ftn_tree.specs.Meanings as spec
use Rattle.ftn_tree.specs.Meanings.{Key, Meaning, unit, own, block, intrinsic_function, nothing, one, several, unknown}
use Rattle.ftn_tree.specs.Roles.{mention, same_role, says}
use Rattle.ftn_tree.specs.Sayings.{Saying, answer, declares, dummy, external, inner_at, inner_mention, inner_role, inside, mentions_at, opened_at, outside, body, said_at, same_name, saying, sayings}
use Rattle.ftn_tree.specs.Scopes.{all_statements, name_at, name_token, own_statements, scope_kind, scope_name, scope_number}
use Rattle.scope_bind.specs.steps.Numbering.{IsNumbered, own_occurrence}
use Rattle.scope_bind.proofs.Leading.{same_number}
use Rattle.scope_bind.proofs.Members.{IsIn, all_in, any_flat, each_append, each_at, each_filter, each_flat, each_map, each_of, each_passed, each_weaker, find_passes, in_filter, is_in, or_left, or_right, place_found}
use Rattle.scope_bind.proofs.Natural.{KnownPairs, accessible_known, exported_known}
use Rattle.scope_bind.proofs.OwnOccurrences.{own_occurs}

-- ---- what the opening of a procedure inside says

abbrev IsInner : Mention → Type 0
IsInner m = (token : ℕ) × (of_body : Bool) × (m ≡ mention token (inner_role of_body))

inner_says : (token : ℕ) (of_body : Bool) → (says role.Dummy (mention token (inner_role of_body)) ≡ false) × (says role.Answer (mention token (inner_role of_body)) ≡ false)
unfolding same_role
inner_says token true = (refl, refl)
inner_says token false = (refl, refl)

inner_inside : (name : List ℕ) (token : ℕ) (of_body : Bool) → inside (record { name = name; said = mention token (inner_role of_body) }) ≡ says role.Inner (mention token (inner_role of_body))
unfolding same_role
inner_inside name token true = refl
inner_inside name token false = refl

inner_declares : (name : List ℕ) (token : ℕ) (of_body : Bool) → declares (record { name = name; said = mention token (inner_role of_body) })
    ≡ (says role.Inner (mention token (inner_role of_body)) || outside (record { name = name; said = mention token (inner_role of_body) }))
unfolding same_role
inner_declares name token true = refl
inner_declares name token false = refl

none_said : (what : Saying → Bool) (said : List Saying) → Each (λ s. what s ≡ false) said → is_said what said ≡ false
none_said what [] all = refl
none_said what (s ∷ said) all = ap₂ (λ a b. a || b) all.0 (none_said what said all.1)

alike_said : (what other : Saying → Bool) (said : List Saying) → Each (λ s. what s ≡ other s) said → is_said what said ≡ is_said other said
alike_said what other [] all = refl
alike_said what other (s ∷ said) all = ap₂ (λ a b. a || b) all.0 (alike_said what other said all.1)

either_said : (what other : Saying → Bool) (said : List Saying) → is_said what said ≡ false → is_said other said ≡ false → is_said (λ s. what s || other s) said ≡ false
either_said what other [] none none_too = refl
either_said what other (s ∷ said) none none_too =
    ap₂ (λ a b. a || b) (both_false (what s) (other s) (first (what s) (is_said what said) none) (first (other s) (is_said other said) none_too))
    (either_said what other said (rest (what s) (is_said what said) none) (rest (other s) (is_said other said) none_too))
  where
    first : (a b : Bool) → (a || b) ≡ false → a ≡ false
    first true b e = e
    first false b e = refl

    rest : (a b : Bool) → (a || b) ≡ false → b ≡ false
    rest true b e = absurd (let no : true ≡ false = e in cc)
    rest false b e = e

    both_false : (a b : Bool) → a ≡ false → b ≡ false → (a || b) ≡ false
    both_false a b e f = ap₂ (λ c d. c || d) e f

module _ (files : List FileTree) where
  -- ---- scoping units have numbers

  abbrev pub HasNumber : Extent → Type 0
  HasNumber e = is_some (scope_number files e) ≡ true

  itself : (e : Extent) → same_extent e e ≡ true
  itself e = ap₂ (λ a b. a && b) (same_number e.file) (same_number e.opening)

  pub units_numbered : Each HasNumber (scoping files)
  units_numbered = each_weaker (IsIn (scoping files)) HasNumber (λ e there. place_found (same_extent e) (scoping files) (is_in (scoping files) e there (same_extent e) (itself e))) (scoping files) (all_in (scoping files))

  pub outer_numbered : Each HasNumber (program_units files)
  outer_numbered = each_filter HasNumber (has_no_host files) (scoping files) units_numbered

  pub modules_numbered : Each HasNumber (spec.module_numbered files)
  modules_numbered = each_filter HasNumber (λ e. spec.is_module (scope_kind files e)) (program_units files) outer_numbered

  pub number_told : (e : Extent) → HasNumber e → (number : ℕ) × (scope_number files e ≡ Some number)
  number_told e has = by (scope_number files e) refl has
    where
      by : (found : Option ℕ) → scope_number files e ≡ found → is_some found ≡ true → (number : ℕ) × (scope_number files e ≡ Some number)
      by None e has = absurd (let no : false ≡ true = has in cc)
      by (Some number) e has = (number, e)

  -- ---- meanings whose keys have numbers, but for what no scoping unit has as its own

  abbrev pub Fine : Key → Type 0
  Fine (block name) = Unit {0}
  Fine (intrinsic_function name) = Unit {0}
  Fine key = IsNumbered files key

  abbrev pub IsFine : Meaning → Type 0
  IsFine (one key) = Fine key
  IsFine meaning = Unit {0}

  if_fine : (b : Bool) (first other : Meaning) → (b ≡ true → IsFine first) → (b ≡ false → IsFine other) → IsFine (cond b first other)
  if_fine true first other here there = here refl
  if_fine false first other here there = there refl

  pub known_fine : (wanted : _) (name : List ℕ) (found : Option Extent) → spec.unit_of files wanted name ≡ found → IsFine (spec.known (option_map unit found))
  known_fine wanted name None e = tt
  known_fine wanted name (Some x) e = find_passes HasNumber (λ y. wanted (scope_kind files y) && bytes_eq (scope_name files y) name) (program_units files) x outer_numbered e

  pub external_fine : (name : List ℕ) → IsFine (spec.known (spec.external_of files name))
  external_fine name = known_fine spec.is_procedure name (spec.unit_of files spec.is_procedure name) refl

  intrinsic_fine : (name : List ℕ) → IsFine (spec.known (spec.intrinsic_of name))
  intrinsic_fine name = by (is_intrinsic name)
    where
      by : (b : Bool) → IsFine (spec.known (cond b (Some (intrinsic_function name)) None))
      by true = tt
      by false = tt

  function_fine : (name : List ℕ) → IsFine (spec.function_meaning files name)
  function_fine name = by (is_intrinsic name)
    where
      by : (b : Bool) → IsFine (spec.known (spec.or_else (cond b (Some (intrinsic_function name)) None) (option_map unit (spec.unit_of files spec.is_function name))))
      by true = tt
      by false = known_fine spec.is_function name (spec.unit_of files spec.is_function name) refl

  inner_fine : (e : Extent) (name : List ℕ) → IsFine (spec.known (option_map unit (spec.inner_of files e name)))
  inner_fine e name = by (spec.inner_of files e name) refl
    where
      by : (found : Option Extent) → spec.inner_of files e name ≡ found → IsFine (spec.known (option_map unit found))
      by None at = tt
      by (Some x) at =
          find_passes HasNumber (λ inner. is_some_extent e (host_of files inner) && not (is_body files inner) && bytes_eq (scope_name files inner) name) (scoping files) x units_numbered at

  outside_fine : (name : List ℕ) (said : List Saying) → IsFine (spec.outside_meaning files name said)
  outside_fine name said = if_fine (is_said external said || is_said body said) (spec.known (spec.external_of files name)) (spec.known (spec.intrinsic_of name)) (λ _. external_fine name) (λ _. intrinsic_fine name)

  module _ (e : Extent) (has : HasNumber e) where
    -- the name stands in an own statement
    abbrev stands : List ℕ → Bool
    stands name = list_any (is_named files e.file name) (own_mentions files e)

    own_fine : (name : List ℕ) → stands name ≡ true → IsFine (one (own e name))
    own_fine name named = let number = number_told e has in (number.0, number.1, own_occurs files e number.0 name number.1 named)

    -- ---- what is said of a name that stands in no own statement is said by openings inside

    abbrev StandsOrInner : List ℕ → Mention → Type 0
    StandsOrInner name m = is_named files e.file name m ≡ true → (stands name ≡ true) ⊎ IsInner m

    own_stands : (name : List ℕ) (statement : ℕ) → IsIn (all_statements e) statement → is_some_extent e (scope_of files e.file statement) ≡ true
        → Each (StandsOrInner name) (mentions_at files e.file statement)
    own_stands name statement there inside =
        each_weaker (IsIn (mentions_at files e.file statement)) (StandsOrInner name)
        (λ m among named. inl (any_flat (is_named files e.file name) (mentions_at files e.file) (own_statements files e)
        (is_in (own_statements files e) statement (in_filter (λ st. is_some_extent e (scope_of files e.file st)) (all_statements e) statement there inside)
        (λ st. list_any (is_named files e.file name) (mentions_at files e.file st)) (is_in (mentions_at files e.file statement) m among (is_named files e.file name) named))))
        (mentions_at files e.file statement) (all_in (mentions_at files e.file statement))

    inner_stands : (name : List ℕ) (found : Option Extent) → Each (StandsOrInner name) (inner_at files e found)
    inner_stands name None = tt
    inner_stands name (Some inner) = by (is_some_extent e (host_of files inner))
      where
        of_token : (token : Option ℕ) → Each (StandsOrInner name) (option_map_or (λ t. mention t (inner_role (is_body files inner)) ∷ []) token [])
        of_token None = tt
        of_token (Some t) = ((λ named. inr (t, is_body files inner, refl)), tt)

        by : (b : Bool) → Each (StandsOrInner name) (cond b (inner_mention files inner) [])
        by true = of_token (name_token files inner)
        by false = tt

    said_stands : (name : List ℕ) (statement : ℕ) → IsIn (all_statements e) statement → Each (StandsOrInner name) (said_at files e statement)
    said_stands name statement there = by (is_some_extent e (scope_of files e.file statement)) refl
      where
        by : (b : Bool) → is_some_extent e (scope_of files e.file statement) ≡ b
            → Each (StandsOrInner name) (cond b (mentions_at files e.file statement) (inner_at files e (opened_at files e.file statement)))
        by true inside = own_stands name statement there inside
        by false outside = inner_stands name (opened_at files e.file statement)

    abbrev said_of : List ℕ → List Saying
    said_of name = filter (same_name name) (sayings files e)

    all_said : (name : List ℕ) → Each (λ s. (stands name ≡ true) ⊎ IsInner s.said) (said_of name)
    all_said name =
        each_weaker (λ s. (same_name name s ≡ true → (stands name ≡ true) ⊎ IsInner s.said) × (same_name name s ≡ true)) (λ s. (stands name ≡ true) ⊎ IsInner s.said) (λ s both. both.0 both.1) (said_of name)
        (each_passed (λ s. same_name name s ≡ true → (stands name ≡ true) ⊎ IsInner s.said) (same_name name) (sayings files e)
        (each_map (λ s. same_name name s ≡ true → (stands name ≡ true) ⊎ IsInner s.said) (saying files e.file) (flat_map (said_at files e) (all_statements e))
        (each_flat (StandsOrInner name) (said_at files e) (all_statements e)
        (each_weaker (IsIn (all_statements e)) (λ statement. Each (StandsOrInner name) (said_at files e statement)) (said_stands name) (all_statements e) (all_in (all_statements e))))))

    -- ---- what the scoping unit itself says

    result_fine : (name : List ℕ) → IsFine (one (own e name)) → IsFine (spec.result_meaning files e name)
    result_fine name here =
        if_fine (has_result_at (layer_at files e.file e.opening)) (one (own e name)) (cond (is_body files e) (spec.known (spec.external_of files name)) (one (unit e))) (λ _. here)
        (λ _. if_fine (is_body files e) (spec.known (spec.external_of files name)) (one (unit e)) (λ _. external_fine name) (λ _. has))

    referenced_fine : (name : List ℕ) (said : List Saying) → (is_said declares said ≡ true → IsFine (one (own e name)))
        → IsFine (cond (is_referenced files e name && is_typed_alone said) (spec.function_meaning files name) (cond (is_said declares said) (one (own e name)) nothing))
    referenced_fine name said last =
        if_fine (is_referenced files e name && is_typed_alone said) (spec.function_meaning files name) (cond (is_said declares said) (one (own e name)) nothing) (λ _. function_fine name)
        (λ _. if_fine (is_said declares said) (one (own e name)) nothing last (λ _. tt))

    -- where each test that makes it an own entity tells that the name stands in an own statement
    said_fine : (name : List ℕ) (said : List Saying) → (is_said dummy said ≡ true → IsFine (one (own e name))) → (is_said answer said ≡ true → IsFine (one (own e name)))
        → (is_said (λ s. says role.Inner s.said) said ≡ false → is_said inside said ≡ true → IsFine (one (own e name)))
        → (is_said (λ s. says role.Inner s.said) said ≡ false → is_said outside said ≡ false → is_said declares said ≡ true → IsFine (one (own e name)))
        → IsFine (spec.declared_meaning files e name said)
    said_fine name said of_dummy of_answer of_inside of_declared =
        if_fine (is_said dummy said) (one (own e name)) _ of_dummy
        (λ _. if_fine (is_said answer said) (spec.result_meaning files e name) _ (λ is. result_fine name (of_answer is))
        (λ _. if_fine (is_said (λ s. says role.Inner s.said) said) (spec.known (option_map unit (spec.inner_of files e name))) _ (λ _. inner_fine e name)
        (λ no_inner. if_fine (is_said inside said) (one (own e name)) _ (of_inside no_inner)
        (λ _. if_fine (is_said outside said) (spec.outside_meaning files name said) _ (λ _. outside_fine name said)
        (λ no_outside. referenced_fine name said (of_declared no_inner no_outside))))))

    inner_only : (name : List ℕ) → stands name ≡ false → Each (λ s. IsInner s.said) (said_of name)
    inner_only name none =
        each_weaker (λ s. (stands name ≡ true) ⊎ IsInner s.said) (λ s. IsInner s.said) (λ s either. elim either [
          | inl named ↦ absurd (let no : true ≡ false = sym named ∙ none in cc)
          | inr inner ↦ inner
        ]) (said_of name) (all_said name)

    tells : (what : Saying → Bool) (of_inner : (name : List ℕ) (token : ℕ) (of_body : Bool) → what (record { name = name; said = mention token (inner_role of_body) }) ≡ false)
        → (said : List Saying) → Each (λ s. IsInner s.said) said → is_said what said ≡ false
    tells what of_inner said inner =
        none_said what said (each_weaker (λ s. IsInner s.said) (λ s. what s ≡ false) (λ s is. ap (λ m. what (record { name = s.name; said = m })) is.2 ∙ of_inner s.name is.0 is.1) said inner)

    pub declared_fine : (name : List ℕ) → IsFine (spec.declared_in files e name)
    declared_fine name = by (cases_Bool (stands name))
      where
        no_way : (b : Bool) → b ≡ false → b ≡ true → IsFine (one (own e name))
        no_way b none some = absurd (let no : true ≡ false = sym some ∙ none in cc)

        by : (stands name ≡ true) ⊎ (stands name ≡ false) → IsFine (spec.declared_in files e name)
        by (inl named) = said_fine name (said_of name) (λ _. own_fine name named) (λ _. own_fine name named) (λ _ _. own_fine name named) (λ _ _ _. own_fine name named)
        by (inr none) =
            let said = said_of name in
            let inner = inner_only name none in
            said_fine name said
            (no_way (is_said dummy said) (tells dummy (λ n token of_body. (inner_says token of_body).0) said inner))
            (no_way (is_said answer said) (tells answer (λ n token of_body. (inner_says token of_body).1) said inner))
            (λ no_inner. no_way (is_said inside said) (alike_said inside (λ s. says role.Inner s.said) said
            (each_weaker (λ s. IsInner s.said) (λ s. inside s ≡ says role.Inner s.said)
            (λ s is. ap (λ m. inside (record { name = s.name; said = m })) is.2 ∙ inner_inside s.name is.0 is.1 ∙ ap (λ m. says role.Inner m) (sym is.2)) said inner) ∙ no_inner))
            (λ no_inner no_outside. no_way (is_said declares said) (alike_said declares (λ s. says role.Inner s.said || outside s) said
            (each_weaker (λ s. IsInner s.said) (λ s. declares s ≡ (says role.Inner s.said || outside s))
            (λ s is. ap (λ m. declares (record { name = s.name; said = m })) is.2 ∙ inner_declares s.name is.0 is.1
            ∙ ap (λ m. says role.Inner m || outside (record { name = s.name; said = m })) (sym is.2)) said inner)
            ∙ either_said (λ s. says role.Inner s.said) outside said no_inner no_outside))

    -- a name that stands plain
    pub letter_fine : (name : List ℕ) → IsFine (spec.letter_meaning files e name)
    letter_fine name = if_fine (spec.stands_plain files e name) (one (own e name)) nothing (λ is. own_fine name (named (own_mentions files e) is)) (λ _. tt)
      where
        named : (ms : List Mention) → list_any (λ m. spec.is_plain m && is_named files e.file name m) ms ≡ true → list_any (is_named files e.file name) ms ≡ true
        named [] some = some
        named (m ∷ ms) some = by (cases_Bool (is_named files e.file name m)) (named ms)
          where
            by : (is_named files e.file name m ≡ true) ⊎ (is_named files e.file name m ≡ false)
                → (list_any (λ x. spec.is_plain x && is_named files e.file name x) ms ≡ true → list_any (is_named files e.file name) ms ≡ true)
                → (is_named files e.file name m || list_any (is_named files e.file name) ms) ≡ true
            by (inl is) again = or_left (is_named files e.file name m) (list_any (is_named files e.file name) ms) is
            by (inr not_here) again = or_right (is_named files e.file name m) (list_any (is_named files e.file name) ms) (again (rest (spec.is_plain m) (is_named files e.file name m) not_here some))
              where
                rest : (a b : Bool) → b ≡ false → ((a && b) || list_any (λ x. spec.is_plain x && is_named files e.file name x) ms) ≡ true → list_any (λ x. spec.is_plain x && is_named files e.file name x) ms ≡ true
                rest true b none either = sym (ap (λ c. c || list_any (λ x. spec.is_plain x && is_named files e.file name x) ms) none) ∙ either
                rest false b none either = either

    -- ---- own pairs

    abbrev AreNumbered : List (PairOf Key) → Type 0
    AreNumbered pairs = KnownPairs (IsNumbered files) pairs

    if_own : (name : List ℕ) (meaning : Meaning) → IsFine meaning → AreNumbered (spec.pair_if_own files e name meaning)
    if_own name nothing fine = tt
    if_own name unknown fine = tt
    if_own name (several first second rest) fine = tt
    if_own name (one (block b)) fine = tt
    if_own name (one (intrinsic_function n)) fine = tt
    if_own name (one (unit x)) fine = by (is_some_extent e (host_of files x))
      where
        by : (b : Bool) → AreNumbered (option_map_or (λ key. (name, key) ∷ []) (cond b (Some (unit x)) None) [])
        by true = (fine, tt)
        by false = tt
    if_own name (one (own x n)) fine = by (is_some_extent e (Some x))
      where
        by : (b : Bool) → AreNumbered (option_map_or (λ key. (name, key) ∷ []) (cond b (Some (own x n)) None) [])
        by true = (fine, tt)
        by false = tt

    put_numbered : (pair : PairOf Key) (pairs : List (PairOf Key)) → IsNumbered files pair.1 → AreNumbered pairs → AreNumbered (spec.put_in_place files e pair pairs)
    put_numbered pair [] first all = (first, tt)
    put_numbered pair (x ∷ pairs) first all = by (before (place e.file (spec.begins_at files e pair)) (place e.file (spec.begins_at files e x))) (put_numbered pair pairs first all.1)
      where
        by : (b : Bool) → AreNumbered (spec.put_in_place files e pair pairs) → AreNumbered (cond b (pair ∷ x ∷ pairs) (x ∷ spec.put_in_place files e pair pairs))
        by true more = (first, all)
        by false more = (all.0, more)

    in_place_numbered : (pairs : List (PairOf Key)) → AreNumbered pairs → AreNumbered (spec.in_place files e pairs)
    in_place_numbered [] all = tt
    in_place_numbered (pair ∷ pairs) all = put_numbered pair (spec.in_place files e pairs) all.0 (in_place_numbered pairs all.1)

    letter_numbered : (accessible : List (PairOf Key)) (name : List ℕ) → AreNumbered (spec.letter_pairs files accessible e nothing name)
    letter_numbered accessible name = by (spec.is_nothing (spec.or_meaning (spec.declared_in files e name) (spec.or_meaning (spec.used_meaning (spec.keys_of name accessible)) nothing)))
      where
        by : (b : Bool) → AreNumbered (cond b (spec.pair_if_own files e name (spec.letter_meaning files e name)) [])
        by true = if_own name (spec.letter_meaning files e name) (letter_fine name)
        by false = tt

    pub own_numbered : (accessible : List (PairOf Key)) → AreNumbered (spec.own_pairs files accessible e)
    own_numbered accessible =
        each_append (λ pair. IsNumbered files pair.1) (spec.declared_pairs files e) (spec.in_place files e (flat_map (spec.letter_pairs files accessible e nothing) (spec.names_in files e)))
        (in_place_numbered (flat_map (λ name. spec.pair_if_own files e name (spec.declared_in files e name)) (spec.names_said_in files e))
        (each_flat (λ pair. IsNumbered files pair.1) (λ name. spec.pair_if_own files e name (spec.declared_in files e name)) (spec.names_said_in files e)
        (each_of (λ name. AreNumbered (spec.pair_if_own files e name (spec.declared_in files e name))) (λ name. if_own name (spec.declared_in files e name) (declared_fine name)) (spec.names_said_in files e))))
        (in_place_numbered (flat_map (spec.letter_pairs files accessible e nothing) (spec.names_in files e))
        (each_flat (λ pair. IsNumbered files pair.1) (spec.letter_pairs files accessible e nothing) (spec.names_in files e)
        (each_of (λ name. AreNumbered (spec.letter_pairs files accessible e nothing name)) (letter_numbered accessible) (spec.names_in files e))))

  -- ---- what is exported and accessible

  pub exports_numbered : (rounds number : ℕ) → KnownPairs (IsNumbered files) (exports_of (spec.exports_after files rounds) number)
  exports_numbered zero number =
      subst (λ (o : Option (List (PairOf Key))). KnownPairs (IsNumbered files) (unwrap_or o [])) (sym (slice_get-map (λ e. []) (spec.module_numbered files) number))
      (none (slice_get (spec.module_numbered files) number))
    where
      none : (found : Option Extent) → KnownPairs (IsNumbered files) (unwrap_or (option_map (λ (e : Extent). []) found) [])
      none None = tt
      none (Some e) = tt
  exports_numbered (suc rounds) number =
      subst (λ (o : Option (List (PairOf Key))). KnownPairs (IsNumbered files) (unwrap_or o [])) (sym (slice_get-map (spec.exports_from files (spec.exports_after files rounds)) (spec.module_numbered files) number))
      (by (slice_get (spec.module_numbered files) number) refl (exports_numbered rounds))
    where
      by : (found : Option Extent) → slice_get (spec.module_numbered files) number ≡ found → ((n : ℕ) → KnownPairs (IsNumbered files) (exports_of (spec.exports_after files rounds) n))
          → KnownPairs (IsNumbered files) (unwrap_or (option_map (spec.exports_from files (spec.exports_after files rounds)) found) [])
      by None at again = tt
      by (Some e) at again =
          let accessible = spec.accessible_from files (spec.exports_after files rounds) e in
          exported_known (IsNumbered files) (spec.own_pairs files accessible e) accessible (spec.access_of files e)
          (own_numbered e (each_at HasNumber (spec.module_numbered files) number e modules_numbered at) accessible)
          (accessible_known (IsNumbered files) spec.same_key (spec.exports_after files rounds) (spec.use_lists files e) again)

  pub all_exports_numbered : (number : ℕ) → KnownPairs (IsNumbered files) (exports_of (spec.all_exports files) number)
  all_exports_numbered number = exports_numbered (length (spec.module_numbered files)) number

  pub accessible_numbered : (e : Extent) → KnownPairs (IsNumbered files) (spec.accessible_in files e)
  accessible_numbered e = accessible_known (IsNumbered files) spec.same_key (spec.all_exports files) (spec.use_lists files e) all_exports_numbered
