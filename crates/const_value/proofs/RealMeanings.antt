-- What names denote in scoping units, and what modules export, are entities of the project.
use Rattle.std.proofs.Common.{◌≡◌, ℕ, zero, suc, ◌<◌, ◌≤◌, Bool, true, false, cond, List, [], ◌∷◌, map, length, Option, Some, None, slice_get, refl, sym, ap, subst, ◌∙◌, arith}
use Rattle.std.specs.Prelude.{not}
use Rattle.std.specs.List.{flat_map, list_any, AllByRecursion as Each}
use Rattle.std.specs.Option.{option_and_then, option_map_or, unwrap_or}
use Rattle.std.specs.Str.{bytes_eq}
use Rattle.std.proofs.lemmas.List.{length-map}
use Rattle.std.proofs.lemmas.Option.{slice_get_past, slice_get_within}
use Rattle.ftn_base.specs.Accessible.{accessible_by, entities_of, exports_of, given_by, gives, is_same_by, items_in, items_of, lists_of, modules_of, once, others_of, sources_of}
use Rattle.ftn_base.specs.Exports.{PairOf, exported, is_among, is_public, public_part}
use Rattle.ftn_base.specs.ModuleUses.{Uses}
use Rattle.ftn_base.specs.declared.uses.Access.{Access}
use Rattle.ftn_base.specs.declared.uses.UseItem.{UseItem}
use Rattle.ftn_base.specs.declared.uses.UseList.{UseList}
use Rattle.ftn_tree.specs.declared.table.Extent.{Extent}
use Rattle.ftn_tree.specs.declared.unit.FileTree.{FileTree}
use Rattle.ftn_tree.specs.Extents.{host_of, is_body, is_some_extent, scoping}
use Rattle.ftn_tree.specs.GlobalNames.{before, has_no_host, place, program_units}
use Rattle.ftn_tree.specs.Meanings as spec
use Rattle.ftn_tree.specs.Meanings.{Key, Meaning, unit, own, block, intrinsic_function, nothing, one, several, unknown, accessible_in, all_exports, module_numbered}
use Rattle.ftn_tree.specs.NameFaults.{module_uses, use_findings}
use Rattle.ftn_tree.specs.Projects.{AreTrees}
use Rattle.ftn_tree.specs.Scopes.{host_number, scope_kind, scope_number}
use Rattle.const_value.proofs.Members.{each_append, each_at, each_filter, each_flat, each_of, each_passed, each_weaker}
use Rattle.const_value.proofs.ModuleRounds.{by_reach, fixed, lists_used}
use Rattle.const_value.proofs.RealKeys.{IsReal, IsRealMeaning, IsUnit, declared_real, letter_real, real_for, units_there}
use Rattle.const_value.proofs.UnitNumbers.{denotes_host, host_first, in_host, step, unit_at, unit_is, unit_there}

-- ---- pairs whose keys are such

abbrev pub AreReal : List FileTree → List (PairOf Key) → Type 0
AreReal files pairs = Each (λ (pair : PairOf Key). IsReal files pair.1) pairs

module _ (files : List FileTree) where
  seconds_real : (pairs : List (PairOf Key)) → AreReal files pairs → Each (IsReal files) (map (λ (pair : PairOf Key). pair.1) pairs)
  seconds_real [] all = tt
  seconds_real (pair ∷ pairs) all = (all.0, seconds_real pairs all.1)

  named_real : (name : List ℕ) (keys : List Key) → Each (IsReal files) keys → AreReal files (map (λ key. (name, key)) keys)
  named_real name [] all = tt
  named_real name (key ∷ keys) all = (all.0, named_real name keys all.1)

  pub entities_real : (pairs : List (PairOf Key)) (name : List ℕ) → AreReal files pairs → Each (IsReal files) (entities_of pairs name)
  entities_real pairs name all = seconds_real _ (each_filter (λ (pair : PairOf Key). IsReal files pair.1) (λ pair. bytes_eq pair.0 name) pairs all)

  items_real : (pairs : List (PairOf Key)) (items : List UseItem) → AreReal files pairs → AreReal files (items_of pairs items)
  items_real pairs [] all = tt
  items_real pairs (item ∷ items) all =
      each_append (λ (pair : PairOf Key). IsReal files pair.1) (gives (entities_of pairs) item) (items_of pairs items) (named_real item.local (entities_of pairs item.source) (entities_real pairs item.source all)) (items_real pairs items all)

  given_real : (pairs : List (PairOf Key)) (lists : List UseList) → AreReal files pairs → AreReal files (given_by pairs lists)
  given_real pairs lists all =
      each_append (λ (pair : PairOf Key). IsReal files pair.1) (items_of pairs (items_in lists)) (cond (list_any (λ (list : UseList). not list.only) lists) (others_of pairs (items_in lists)) [])
      (items_real pairs (items_in lists) all) (by (list_any (λ (list : UseList). not list.only) lists))
    where
      by : (b : Bool) → AreReal files (cond b (others_of pairs (items_in lists)) [])
      by true = each_filter (λ (pair : PairOf Key). IsReal files pair.1) (λ pair. not (is_among (sources_of (items_in lists)) pair.0)) pairs all
      by false = tt

  each_once : (same : PairOf Key → PairOf Key → Bool) (pairs : List (PairOf Key)) → AreReal files pairs → AreReal files (once same pairs)
  each_once same [] all = tt
  each_once same (pair ∷ pairs) all = (all.0, each_filter (λ (pair : PairOf Key). IsReal files pair.1) (λ y. not (same y pair)) (once same pairs) (each_once same pairs all.1))

  -- of all modules of the lists
  accessible_real : (xss : List (List (PairOf Key))) (lists : List UseList) → Each (λ number. AreReal files (exports_of xss number)) (modules_of lists) → AreReal files (accessible_by spec.same_key xss lists)
  accessible_real xss lists all =
      each_once (is_same_by spec.same_key) (flat_map (λ number. given_by (exports_of xss number) (lists_of number lists)) (modules_of lists))
      (each_flat (λ (pair : PairOf Key). IsReal files pair.1) (λ number. given_by (exports_of xss number) (lists_of number lists)) (modules_of lists)
      (each_weaker (λ number. AreReal files (exports_of xss number)) (λ number. AreReal files (given_by (exports_of xss number) (lists_of number lists))) (λ number. given_real (exports_of xss number) (lists_of number lists)) (modules_of lists) all))

  exported_real : (own' used : List (PairOf Key)) (access : Access) → AreReal files own' → AreReal files used → AreReal files (exported own' used access)
  exported_real own' used access all more =
      each_append (λ (pair : PairOf Key). IsReal files pair.1) (public_part access.default_public (is_among access.public) (is_among access.private) own')
      (public_part access.default_public (is_among access.public) (is_among access.private) used)
      (each_filter (λ (pair : PairOf Key). IsReal files pair.1) (λ pair. is_public access.default_public (is_among access.public) (is_among access.private) pair.0) own' all)
      (each_filter (λ (pair : PairOf Key). IsReal files pair.1) (λ pair. is_public access.default_public (is_among access.public) (is_among access.private) pair.0) used more)

  -- ---- own pairs

  module _ (e : Extent) where
    if_own : (name : List ℕ) (meaning : Meaning) → IsRealMeaning files name meaning → AreReal files (spec.pair_if_own files e name meaning)
    if_own name nothing is = tt
    if_own name unknown is = tt
    if_own name (several first second rest) is = tt
    if_own name (one (block b)) is = tt
    if_own name (one (intrinsic_function n)) is = tt
    if_own name (one (unit x)) is = by (is_some_extent e (host_of files x)) where
      by : (b : Bool) → AreReal files (option_map_or (λ key. (name, key) ∷ []) (cond b (Some (unit x)) None) [])
      by true = (is, tt)
      by false = tt
    if_own name (one (own x n)) is = by (is_some_extent e (Some x)) where
      by : (b : Bool) → AreReal files (option_map_or (λ key. (name, key) ∷ []) (cond b (Some (own x n)) None) [])
      by true = (is, tt)
      by false = tt

    put_real : (pair : PairOf Key) (pairs : List (PairOf Key)) → IsReal files pair.1 → AreReal files pairs → AreReal files (spec.put_in_place files e pair pairs)
    put_real pair [] first all = (first, tt)
    put_real pair (x ∷ pairs) first all = by (before (place e.file (spec.begins_at files e pair)) (place e.file (spec.begins_at files e x))) (put_real pair pairs first all.1) where
      by : (b : Bool) → AreReal files (spec.put_in_place files e pair pairs) → AreReal files (cond b (pair ∷ x ∷ pairs) (x ∷ spec.put_in_place files e pair pairs))
      by true more = (first, all)
      by false more = (all.0, more)

    in_place_real : (pairs : List (PairOf Key)) → AreReal files pairs → AreReal files (spec.in_place files e pairs)
    in_place_real [] all = tt
    in_place_real (pair ∷ pairs) all = put_real pair (spec.in_place files e pairs) all.0 (in_place_real pairs all.1)

    own_real : IsUnit files e → (accessible : List (PairOf Key)) → ((name : List ℕ) → AreReal files (spec.letter_pairs files accessible e nothing name)) → AreReal files (spec.own_pairs files accessible e)
    own_real there accessible letters =
        each_append (λ (pair : PairOf Key). IsReal files pair.1) (spec.declared_pairs files e) (spec.in_place files e (flat_map (spec.letter_pairs files accessible e nothing) (spec.names_in files e)))
        (in_place_real (flat_map (λ name. spec.pair_if_own files e name (spec.declared_in files e name)) (spec.names_said_in files e))
        (each_flat (λ (pair : PairOf Key). IsReal files pair.1) (λ name. spec.pair_if_own files e name (spec.declared_in files e name)) (spec.names_said_in files e)
        (each_of (λ name. AreReal files (spec.pair_if_own files e name (spec.declared_in files e name))) (λ name. if_own name (spec.declared_in files e name) (declared_real files name e there)) (spec.names_said_in files e))))
        (in_place_real (flat_map (spec.letter_pairs files accessible e nothing) (spec.names_in files e))
        (each_flat (λ (pair : PairOf Key). IsReal files pair.1) (spec.letter_pairs files accessible e nothing) (spec.names_in files e)
        (each_of (λ name. AreReal files (spec.letter_pairs files accessible e nothing name)) letters (spec.names_in files e))))

-- ---- what modules export

nothing_is : (m : Meaning) → spec.is_nothing m ≡ true → m ≡ nothing
nothing_is nothing is = refl
nothing_is (one key) is = absurd (cc is)
nothing_is (several a b rest) is = absurd (cc is)
nothing_is unknown is = absurd (cc is)

first_nothing : (a b : Meaning) → spec.is_nothing (spec.or_meaning a b) ≡ true → spec.is_nothing a ≡ true
first_nothing nothing b is = refl
first_nothing (one key) b is = is
first_nothing (several x y rest) b is = is
first_nothing unknown b is = is

-- what the letter tells where nothing else does
by_letter : (declared used around letter : Meaning) (body : Bool) → spec.is_nothing (spec.or_meaning declared (spec.or_meaning used nothing)) ≡ true → around ≡ nothing
    → spec.or_meaning declared (spec.or_meaning used (spec.or_meaning (cond body nothing around) letter)) ≡ letter
by_letter nothing nothing around letter true none is = refl
by_letter nothing nothing around letter false none is = ap (λ m. spec.or_meaning m letter) is
by_letter nothing (one key) around letter body none is = absurd (cc none)
by_letter nothing (several a b rest) around letter body none is = absurd (cc none)
by_letter nothing unknown around letter body none is = absurd (cc none)
by_letter (one key) used around letter body none is = absurd (cc none)
by_letter (several a b rest) used around letter body none is = absurd (cc none)
by_letter unknown used around letter body none is = absurd (cc none)

module _ (files : List FileTree) (are : AreTrees files) (fine : use_findings files ≡ []) where
  -- a module is a scoping unit without a host
  abbrev IsOuter : Extent → Type 0
  IsOuter e = IsUnit files e × (has_no_host files e ≡ true)

  modules_outer : Each IsOuter (module_numbered files)
  modules_outer = each_filter IsOuter (λ e. spec.is_module (scope_kind files e)) (program_units files) (each_passed (IsUnit files) (has_no_host files) (scoping files) (units_there files []))

  no_host : (e : Extent) → has_no_host files e ≡ true → host_number files e ≡ None
  no_host e outer = by (host_of files e) outer where
    by : (o : Option Extent) → option_map_or (λ (h : Extent). false) o true ≡ true → option_and_then (scope_number files) o ≡ None
    by None is = refl
    by (Some h) is = absurd (cc is)

  letters_real : (e : Extent) → IsOuter e → (name : List ℕ) → AreReal files (spec.letter_pairs files (accessible_in files e) e nothing name)
  letters_real e outer name = by (spec.is_nothing (spec.or_meaning (spec.declared_in files e name) (spec.or_meaning (spec.used_meaning (spec.keys_of name (accessible_in files e))) nothing))) refl where
    n : ℕ
    n = outer.0.0

    less : outer.0.0 < length (scoping files)
    less = slice_get_within (scoping files) outer.0.0 e outer.0.1

    same : unit_at files outer.0.0 ≡ e
    same = unit_is files outer.0.0 e outer.0.1

    denoted : spec.denotes files e name ≡ step files name nothing e
    denoted =
        ap (λ x. spec.denotes files x name) (sym same) ∙ denotes_host files are outer.0.0 less name
        ∙ ap (λ x. step files name (in_host files name (host_number files x)) x) same
        ∙ ap (λ host. step files name (in_host files name host) e) (no_host e outer.1)

    by : (b : Bool) → spec.is_nothing (spec.or_meaning (spec.declared_in files e name) (spec.or_meaning (spec.used_meaning (spec.keys_of name (accessible_in files e))) nothing)) ≡ b
        → AreReal files (cond b (spec.pair_if_own files e name (spec.letter_meaning files e name)) [])
    by false is = tt
    by true is =
        if_own files e name (spec.letter_meaning files e name)
        (letter_real files name e outer.0 (first_nothing (spec.declared_in files e name) _ is)
        (λ plain.
        denoted ∙ by_letter (spec.declared_in files e name) (spec.used_meaning (spec.keys_of name (accessible_in files e))) nothing (spec.letter_meaning files e name) (is_body files e) is refl
        ∙ ap (λ b. cond b (one (own e name)) nothing) plain))

  module_real : (i : ℕ) (e : Extent) → slice_get (module_numbered files) i ≡ Some e → AreReal files (exports_of (all_exports files) i)
  module_real i e there =
      by_reach files are fine (λ r i. AreReal files (exports_of (all_exports files) i))
      (λ r i e there before.
      let outer : IsOuter e = each_at IsOuter (module_numbered files) i e modules_outer there in
      let used : AreReal files (accessible_in files e) =
      accessible_real files (all_exports files) (spec.use_lists files e)
      (each_weaker (λ number. Uses (module_uses files) i number) (λ number. AreReal files (exports_of (all_exports files) number)) before (modules_of (spec.use_lists files e)) (lists_used files are fine i e there)) in
      subst (AreReal files) (sym (fixed files are fine i e there))
      (exported_real files (spec.own_pairs files (accessible_in files e) e) (accessible_in files e) (spec.access_of files e)
      (own_real files e outer.0 (accessible_in files e) (letters_real e outer)) used))
      i e there

  exports_long : length (all_exports files) ≡ length (module_numbered files)
  exports_long = rounds (length (module_numbered files)) where
    rounds : (r : ℕ) → length (spec.exports_after files r) ≡ length (module_numbered files)
    rounds zero = length-map (module_numbered files) _
    rounds (suc r) = length-map (module_numbered files) (spec.exports_from files (spec.exports_after files r))

  pub exports_real : (i : ℕ) → AreReal files (exports_of (all_exports files) i)
  exports_real i = by (slice_get (module_numbered files) i) refl where
    past_end : {X : Type 0} (xs : List X) (n : ℕ) → slice_get xs n ≡ None → length xs ≤ n
    past_end [] n is = omega arith
    past_end (x ∷ xs) zero is = absurd (cc is)
    past_end (x ∷ xs) (suc n) is = let rest : length xs ≤ n = past_end xs n is in omega (arith, rest)

    by : (o : Option Extent) → slice_get (module_numbered files) i ≡ o → AreReal files (exports_of (all_exports files) i)
    by None is =
        subst (λ (o : Option (List (PairOf Key))). AreReal files (unwrap_or o [])) (sym (slice_get_past (all_exports files) i (subst (λ n. n ≤ i) (sym exports_long) (past_end (module_numbered files) i is)))) tt
    by (Some e) is = module_real i e is

  pub used_real : (e : Extent) → AreReal files (accessible_in files e)
  used_real e = accessible_real files (all_exports files) (spec.use_lists files e) (each_of (λ number. AreReal files (exports_of (all_exports files) number)) exports_real (modules_of (spec.use_lists files e)))

  -- ---- what a name denotes

  module _ (name : List ℕ) where
    used_meaning_real : (keys : List Key) → Each (IsReal files) keys → IsRealMeaning files name (spec.used_meaning keys)
    used_meaning_real [] all = tt
    used_meaning_real (key ∷ []) all = real_for files name key all.0
    used_meaning_real (key ∷ other ∷ rest) all = tt

    -- by what comes first
    in_turn : (declared used around letter : Meaning) (body : Bool) → IsRealMeaning files name declared → IsRealMeaning files name used → IsRealMeaning files name around
        → (spec.is_nothing declared ≡ true → spec.or_meaning declared (spec.or_meaning used (spec.or_meaning (cond body nothing around) letter)) ≡ letter → IsRealMeaning files name letter)
        → IsRealMeaning files name (spec.or_meaning declared (spec.or_meaning used (spec.or_meaning (cond body nothing around) letter)))
    in_turn (one key) used around letter body d u a l = d
    in_turn (several x y rest) used around letter body d u a l = d
    in_turn unknown used around letter body d u a l = d
    in_turn nothing (one key) around letter body d u a l = u
    in_turn nothing (several x y rest) around letter body d u a l = u
    in_turn nothing unknown around letter body d u a l = u
    in_turn nothing nothing around letter true d u a l = l refl refl
    in_turn nothing nothing (one key) letter false d u a l = a
    in_turn nothing nothing (several x y rest) letter false d u a l = a
    in_turn nothing nothing unknown letter false d u a l = a
    in_turn nothing nothing nothing letter false d u a l = l refl refl

    denotes_from : (bound n : ℕ) → n < bound → n < length (scoping files) → IsRealMeaning files name (spec.denotes files (unit_at files n) name)
    denotes_from zero n none less = absurd (omega (arith, none))
    denotes_from (suc bound) n below less =
        subst (IsRealMeaning files name) (sym (denotes_host files are n less name))
        (at (host_number files (unit_at files n)) refl (λ host is. denotes_from bound host (let first : host < n = host_first files are n less host is in omega (arith, first, below)) (let first : host < n = host_first files are n less host is in omega (arith, first, less))))
      where
        there : IsUnit files (unit_at files n)
        there = (n, unit_there files n less)

        at : (host : Option ℕ) → host_number files (unit_at files n) ≡ host → ((h : ℕ) → host_number files (unit_at files n) ≡ Some h → IsRealMeaning files name (spec.denotes files (unit_at files h) name))
            → IsRealMeaning files name (step files name (in_host files name (host_number files (unit_at files n))) (unit_at files n))
        at host is inner =
            in_turn (spec.declared_in files (unit_at files n) name) (spec.used_meaning (spec.keys_of name (accessible_in files (unit_at files n)))) (in_host files name (host_number files (unit_at files n)))
            (spec.letter_meaning files (unit_at files n) name) (is_body files (unit_at files n))
            (declared_real files name (unit_at files n) there)
            (used_meaning_real (spec.keys_of name (accessible_in files (unit_at files n))) (entities_real files (accessible_in files (unit_at files n)) name (used_real (unit_at files n))))
            (subst (λ h. IsRealMeaning files name (in_host files name h)) (sym is) (around host is inner))
            (λ none letter_alone.
            letter_real files name (unit_at files n) there none
            (λ plain. denotes_host files are n less name ∙ letter_alone ∙ ap (λ b. cond b (one (own (unit_at files n) name)) nothing) plain))
          where
            around : (host : Option ℕ) → host_number files (unit_at files n) ≡ host → ((h : ℕ) → host_number files (unit_at files n) ≡ Some h → IsRealMeaning files name (spec.denotes files (unit_at files h) name))
                → IsRealMeaning files name (in_host files name host)
            around None is inner = tt
            around (Some h) is inner = inner h is

    pub denotes_real : (e : Extent) → IsUnit files e → IsRealMeaning files name (spec.denotes files e name)
    denotes_real e there =
        let less : there.0 < length (scoping files) = slice_get_within (scoping files) there.0 e there.1 in
        subst (λ x. IsRealMeaning files name (spec.denotes files x name)) (unit_is files there.0 e there.1) (denotes_from (suc there.0) there.0 (omega arith) less)
