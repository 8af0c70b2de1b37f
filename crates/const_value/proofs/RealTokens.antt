-- What occurrences of names denote are entities of the project.
use Rattle.std.proofs.Common.{◌≡◌, ℕ, Bool, true, false, cond, List, [], ◌∷◌, filter, map, length, Option, Some, None, slice_get, refl, subst, arith}
use Rattle.std.specs.Prelude.{◌==◌}
use Rattle.std.specs.List.{enumerate_from, find, last_or, list_any, range_with_len, AllByRecursion as Each}
use Rattle.std.specs.Option.{option_map_or}
use Rattle.std.proofs.lemmas.Bool.Decides.{nat_tests}
use Rattle.ftn_base.specs.Accessible.{entities_of, exports_of}
use Rattle.ftn_tree.specs.declared.mention.Mention.{Mention}
use Rattle.ftn_tree.specs.declared.mention.Role.{Role}
use Rattle.ftn_tree.specs.declared.mention.Role.TheVariants as role
use Rattle.ftn_tree.specs.declared.table.Extent.{Extent}
use Rattle.ftn_tree.specs.declared.unit.FileTree.{FileTree}
use Rattle.ftn_tree.specs.Bindings.{Denoting, denoting, denotings, denotings_in, item_keys, item_tokens, keys_at, keys_by_tokens, meaning_by, module_token, occurrence_meaning, opened_meaning}
use Rattle.ftn_tree.specs.Extents.{covers, is_body, layer_at, scope_of, scoping}
use Rattle.ftn_tree.specs.GlobalNames.{Global, blocks, has_no_host, same_name as same_global}
use Rattle.ftn_tree.specs.Layers.{FormLayer}
use Rattle.ftn_tree.specs.Meanings as spec
use Rattle.ftn_tree.specs.Meanings.{Key, Meaning, unit, own, block, intrinsic_function, nothing, one, several, unknown, all_exports}
use Rattle.ftn_tree.specs.NameFaults.{use_findings}
use Rattle.ftn_tree.specs.Projects.{AreTrees}
use Rattle.ftn_tree.specs.Sayings.{mentions_at}
use Rattle.ftn_tree.specs.Scopes.{name_at, scope_kind, scope_name}
use Rattle.const_value.proofs.Members.{each_flat, each_map, each_of, each_passed}
use Rattle.const_value.proofs.RealKeys.{IsReal, IsRealMeaning, IsUnit, external_real, real_for, reference_real, unit_real, units_there}
use Rattle.const_value.proofs.RealMeanings.{denotes_real, entities_real, exports_real}

-- a module of the project is no interface body
abbrev pub AreNoBodies : List FileTree → Type 0
AreNoBodies files = (e : Extent) → IsUnit files e → has_no_host files e ≡ true → spec.is_module (scope_kind files e) ≡ true → is_body files e ≡ false

module _ (files : List FileTree) (are : AreTrees files) (fine : use_findings files ≡ []) (no_bodies : AreNoBodies files) where
  or_real : (name : List ℕ) (first other : Meaning) → IsRealMeaning files name first → IsRealMeaning files name other → IsRealMeaning files name (spec.or_meaning first other)
  or_real name nothing other is there = there
  or_real name (one key) other is there = is
  or_real name (several a b rest) other is there = is
  or_real name unknown other is there = is

  if_real : (name : List ℕ) (b : Bool) (first other : Meaning) → (b ≡ true → IsRealMeaning files name first) → (b ≡ false → IsRealMeaning files name other) → IsRealMeaning files name (cond b first other)
  if_real name true first other here there = here refl
  if_real name false first other here there = there refl

  module _ (e : Extent) (there : IsUnit files e) (statement : ℕ) (m : Mention) where
    keys_real : Each (IsReal files) (keys_at files e statement m)
    keys_real = by_layer (layer_at files e.file statement) where
      by_number : (number : Option ℕ) (source : List ℕ) → Each (IsReal files) (option_map_or (λ n. entities_of (exports_of (all_exports files) n) source) number [])
      by_number None source = tt
      by_number (Some n) source = entities_real files (exports_of (all_exports files) n) source (exports_real files are fine n)

      by_tokens : (token : Option ℕ) (item : Option (ℕ × ℕ)) → Each (IsReal files) (keys_by_tokens files e.file token item)
      by_tokens None item = tt
      by_tokens (Some token) None = tt
      by_tokens (Some token) (Some item) = by_number (spec.module_number files (name_at files e.file token)) (name_at files e.file item.1)

      by_layer : (layer : Option FormLayer) → Each (IsReal files) (item_keys files e.file layer m.token)
      by_layer None = tt
      by_layer (Some form) = by_tokens (module_token form) (find (λ item. item.0 == m.token) (item_tokens form))

    source_real : (keys : List Key) → Each (IsReal files) keys → IsRealMeaning files (name_at files e.file m.token) (spec.used_meaning keys)
    source_real [] all = tt
    source_real (key ∷ []) all = real_for files (name_at files e.file m.token) key all.0
    source_real (key ∷ other ∷ rest) all = tt

    local_real : (keys : List Key) → Each (IsReal files) keys → IsRealMeaning files (name_at files e.file m.token) (spec.known (slice_get keys 0))
    local_real [] all = tt
    local_real (key ∷ keys) all = real_for files (name_at files e.file m.token) key all.0

    at_real : IsRealMeaning files (name_at files e.file m.token) (spec.meaning_at files e m)
    at_real =
        or_real (name_at files e.file m.token) (spec.denotes files e (name_at files e.file m.token)) (spec.reference_meaning files m (name_at files e.file m.token))
        (denotes_real files are fine (name_at files e.file m.token) e there) (reference_real files (name_at files e.file m.token) m)

    opened_real : IsRealMeaning files (name_at files e.file m.token) (opened_meaning files e)
    opened_real =
        if_real (name_at files e.file m.token) (is_body files e) _ (one (unit e)) (λ body. external_real files (name_at files e.file m.token) (scope_name files e)) (λ no_body. (there, no_body))

    by_role : (r : Role) → IsRealMeaning files (name_at files e.file m.token) (meaning_by r files e statement m)
    by_role role.Opens = opened_real
    by_role role.Ends = if_real (name_at files e.file m.token) (statement == e.ending) (opened_meaning files e) (spec.meaning_at files e m) (λ is. opened_real) (λ is. at_real)
    by_role role.Slash =
        if_real (name_at files e.file m.token) (list_any (λ (g : Global). same_global g.name (Some (name_at files e.file m.token))) (blocks files)) (one (block (Some (name_at files e.file m.token)))) unknown (λ is. is) (λ is. tt)
    by_role role.Module = unit_real files (name_at files e.file m.token) spec.is_module no_bodies (name_at files e.file m.token)
    by_role role.Source = source_real (keys_at files e statement m) keys_real
    by_role role.Local = local_real (keys_at files e statement m) keys_real
    by_role other = at_real

  -- ---- at an occurrence

  last_each : {X : Type 0} (P : X → Type 0) (o : Option X) (xs : List X) (x : X) → ((y : X) → o ≡ Some y → P y) → Each P xs → last_or o xs ≡ Some x → P x
  last_each P o [] x first all is = first x is
  last_each P o (y ∷ xs) x first all is = last_each P (Some y) xs x (λ z same. let equal : y ≡ z = cc same in subst P equal all.0) all.1 is

  in_file : (file statement : ℕ) (e : Extent) → covers file statement e ≡ true → e.file ≡ file
  in_file file statement e is = grind (arith, nat_tests)

  mention_real : (file statement : ℕ) (m : Mention) → IsRealMeaning files (name_at files file m.token) (occurrence_meaning files file statement m)
  mention_real file statement m = by (scope_of files file statement) refl where
    by : (found : Option Extent) → scope_of files file statement ≡ found → IsRealMeaning files (name_at files file m.token) (option_map_or (λ e. meaning_by m.role files e statement m) found unknown)
    by None is = tt
    by (Some e) is =
        let (there, covered) = last_each (λ x. IsUnit files x × (covers file statement x ≡ true)) None (filter (covers file statement) (scoping files)) e (λ y none. absurd (cc none))
        (each_passed (IsUnit files) (covers file statement) (scoping files) (units_there files [])) is in
        subst (λ f. IsRealMeaning files (name_at files f m.token) (meaning_by m.role files e statement m)) (in_file file statement e covered) (by_role e there statement m m.role)

  pub each_real : Each (λ (d : Denoting). IsRealMeaning files d.name d.meaning) (denotings files)
  each_real =
      each_flat (λ (d : Denoting). IsRealMeaning files d.name d.meaning) (λ (numbered : ℕ × FileTree). denotings_in files numbered.0 numbered.1) (enumerate_from 0 files)
      (each_of (λ (numbered : ℕ × FileTree). Each (λ (d : Denoting). IsRealMeaning files d.name d.meaning) (denotings_in files numbered.0 numbered.1)) (λ numbered. in_tree numbered.0 numbered.1) (enumerate_from 0 files))
    where
      in_tree : (file : ℕ) (tree : FileTree) → Each (λ (d : Denoting). IsRealMeaning files d.name d.meaning) (denotings_in files file tree)
      in_tree file tree =
          each_flat (λ (d : Denoting). IsRealMeaning files d.name d.meaning) (λ statement. map (denoting files file statement) (mentions_at files file statement)) (range_with_len 0 (length tree.statements))
          (each_of (λ statement. Each (λ (d : Denoting). IsRealMeaning files d.name d.meaning) (map (denoting files file statement) (mentions_at files file statement)))
          (λ statement. each_map (λ (d : Denoting). IsRealMeaning files d.name d.meaning) (denoting files file statement) (mentions_at files file statement)
          (each_of (λ m. IsRealMeaning files (name_at files file m.token) (occurrence_meaning files file statement m)) (mention_real file statement) (mentions_at files file statement)))
          (range_with_len 0 (length tree.statements)))
