-- The least module on a cycle by its scoping unit, and how many modules there are.
use Rattle.std.proofs.Common.{◌≡◌, ℕ, suc, ◌+◌, ◌*◌, ◌^◌, ◌<◌, ◌≤◌, Bool, true, false, cond, List, [], ◌∷◌, Vec, filter, map, length, get_or, Option, Some, None, slice_get, All, refl, sym, ap, subst, ◌∙◌, arith}
use Rattle.std.specs.List.{filter_map, flat_map, AllByRecursion as Each}
use Rattle.std.specs.Option.{is_some}
use Rattle.std.proofs.lemmas.List.{length-map}
use Rattle.std.proofs.lemmas.List.Elements.{All-from_recursion}
use Rattle.std.proofs.lemmas.Option.{slice_get-get_or}
use Rattle.ftn_base.specs.ModuleUses.{AreKnown}
use Rattle.ftn_tree.specs.declared.table.Extent.{Extent}
use Rattle.ftn_tree.specs.declared.unit.FileTree.{FileTree}
use Rattle.ftn_tree.specs.DeclarationFaults.{Finding, first_finding}
use Rattle.ftn_tree.specs.Extents.{scoping}
use Rattle.ftn_tree.specs.GlobalNames.{has_no_host, program_units}
use Rattle.ftn_tree.specs.Meanings.{is_module, module_numbered}
use Rattle.ftn_tree.specs.NameFaults.{leads_to, module_uses, use_findings, use_rank, use_statements, used_number}
use Rattle.ftn_tree.specs.Projects.{AreTrees}
use Rattle.ftn_tree.specs.Scopes.{scope_kind, scope_number}
use Rattle.module_graph.specs.Uses.{used_lists}
use Rattle.module_graph.proofs.Listing.{lists_length}
use Rattle.scope_bind.specs.steps.Cycles.{IsLeastOn}
use Rattle.scope_bind.specs.steps.Globals.{IsNumber, no_extent, unit_at}
use Rattle.scope_bind.specs.steps.UseFaults.{uses_by}
use Rattle.scope_bind.proofs.CycleFindings.{cycle_found, cycles_told, each_filter_map}
use Rattle.scope_bind.proofs.Members.{each_map, each_of}
use Rattle.scope_bind.proofs.ModuleTurns.{module_scope, module_unit}
use Rattle.scope_bind.proofs.Units.{found, number_less}

filter_short : {A : Type 0} (test : A → Bool) (xs : List A) → length (filter test xs) ≤ length xs
filter_short test [] = omega arith
filter_short test (x ∷ xs) = by (test x) (filter_short test xs)
  where
    by : (b : Bool) → length (filter test xs) ≤ length xs → length (cond b (x ∷ filter test xs) (filter test xs)) ≤ suc (length xs)
    by true le = omega arith
    by false le = omega arith

module _ (files : List FileTree) where
  modules_long : length (module_uses files) ≡ length (module_numbered files)
  modules_long = length-map (module_numbered files) (λ x. filter_map (used_number files x.file) (use_statements files x))

  pub few_modules : (count : ℕ) → length (scoping files) < count → length (module_uses files) < count
  few_modules count few =
      let long : length (module_uses files) ≡ length (module_numbered files) = modules_long in
      let outer : length (module_numbered files) ≤ length (program_units files) = filter_short (λ e. is_module (scope_kind files e)) (program_units files) in
      let all : length (program_units files) ≤ length (scoping files) = filter_short (has_no_host files) (scoping files) in
      omega arith

  pub uses_known : AreKnown (module_uses files)
  uses_known =
      All-from_recursion (All (λ used. used < length (module_uses files))) (module_uses files)
      (each_map (All (λ used. used < length (module_uses files))) (λ x. filter_map (used_number files x.file) (use_statements files x)) (module_numbered files)
      (each_of (λ x. All (λ used. used < length (module_uses files)) (filter_map (used_number files x.file) (use_statements files x)))
      (λ x. All-from_recursion (λ used. used < length (module_uses files)) (filter_map (used_number files x.file) (use_statements files x))
      (each_filter_map (λ used. used < length (module_uses files)) (used_number files x.file) (use_statements files x)
      (each_of (λ one. (v : ℕ) → used_number files x.file one ≡ Some v → v < length (module_uses files))
      (λ one v is. subst (λ (n : ℕ). v < n) (sym modules_long) ((found _ (module_numbered files) v is).0)) (use_statements files x)))) (module_numbered files)))

  pub told_by_lists : {A : Type 0} (uses : List (Vec ℕ A)) → used_lists uses ≡ module_uses files → (m : ℕ) (marks : List Bool)
      → ((first : ℕ) → first < length uses → slice_get marks first ≡ Some (leads_to (used_lists uses) first m)) → (first : ℕ) → first < length (module_uses files)
      → slice_get marks first ≡ Some (leads_to (module_uses files) first m)
  told_by_lists uses same m marks told first lt =
      let size = lists_length uses in
      let long : length (used_lists uses) ≡ length (module_uses files) = ap length same in
      let within : first < length uses = omega arith in
      subst (λ (us : List (List ℕ)). slice_get marks first ≡ Some (leads_to us first m)) same (told first within)

  pub few_lists : {A : Type 0} (uses : List (Vec ℕ A)) (count : ℕ) → used_lists uses ≡ module_uses files → length (scoping files) < count → length uses < count
  few_lists uses count same few =
      let size = lists_length uses in
      let long : length (used_lists uses) ≡ length (module_uses files) = ap length same in
      let less : length (module_uses files) < count = few_modules count few in
      omega arith

  module _ (are : AreTrees files) (modules : List ℕ) (scopes : map (λ (n : ℕ). Some n) modules ≡ map (scope_number files) (module_numbered files))
      (m : ℕ) (least : IsLeastOn (module_uses files) m) where
    abbrev e : Extent
    e = get_or (module_numbered files) m no_extent

    within : m < length (module_numbered files)
    within = subst (λ (n : ℕ). m < n) modules_long least.within

    at : slice_get (module_numbered files) m ≡ Some e
    at = slice_get-get_or (module_numbered files) m no_extent within

    pub least_within : m < length modules
    least_within = (module_scope files modules scopes m e at).0

    number_is : scope_number files e ≡ Some (get_or modules m 0)
    number_is = (module_scope files modules scopes m e at).1

    pub scope_within : IsNumber files (get_or modules m 0)
    scope_within = number_less files e (get_or modules m 0) number_is

    unit_is : unit_at files (get_or modules m 0) ≡ e
    unit_is = module_unit files are m (get_or modules m 0) e at number_is

    module _ (marks : List Bool) (told : (first : ℕ) → first < length (module_uses files) → slice_get marks first ≡ Some (leads_to (module_uses files) first m)) where
      pub least_told : (result : Option Finding) → result ≡ first_finding use_rank (flat_map (uses_by files (Some (get_or modules m 0)) marks) (program_units files))
          → result ≡ first_finding use_rank (use_findings files)
      least_told result is = is ∙ cycles_told files are m (get_or modules m 0) least e at unit_is marks told

      pub least_found : (result : Option Finding) → result ≡ first_finding use_rank (flat_map (uses_by files (Some (get_or modules m 0)) marks) (program_units files)) → is_some result ≡ true
      least_found result is = ap is_some (least_told result is) ∙ cycle_found files are m (get_or modules m 0) least e at unit_is marks told
