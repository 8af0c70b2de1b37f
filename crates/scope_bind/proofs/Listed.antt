-- The modules that USE statements of a module list are among those that it uses, so that what it exports is made of what those export.
use Rattle.std.proofs.Common.{◌≡◌, ℕ, nat_eq, Bool, true, false, List, [], ◌∷◌, filter, map, length, get_or, Option, Some, None, slice_get, Contains, refl, sym, ap, subst, ◌∙◌}
use Rattle.std.specs.List.{filter_map, flat_map, list_any, AllByRecursion as Each}
use Rattle.std.specs.Option.{option_and_then, option_map, option_map_or}
use Rattle.std.proofs.lemmas.Bool.{eqb-true}
use Rattle.std.proofs.lemmas.List.{length-map}
use Rattle.std.proofs.lemmas.Map.Views.{Contains-from_any}
use Rattle.std.proofs.lemmas.Option.{get_or_from_slice_get, slice_get-map}
use Rattle.ftn_base.specs.Accessible.{exports_of, modules_of}
use Rattle.ftn_base.specs.Exports.{PairOf, exported}
use Rattle.ftn_base.specs.ModuleOrders.{IsOrder}
use Rattle.ftn_base.specs.ModuleUses.{Uses, used_by}
use Rattle.ftn_base.specs.declared.uses.UseItem.{UseItem}
use Rattle.ftn_base.specs.declared.uses.UseList.{UseList}
use Rattle.ftn_tree.specs.declared.form.Form.TheOpen.{Form-F}
use Rattle.ftn_tree.specs.declared.table.Extent.{Extent}
use Rattle.ftn_tree.specs.declared.unit.FileTree.{FileTree}
use Rattle.ftn_tree.specs.Layers.{FormLayer}
use Rattle.ftn_tree.specs.Bindings.{module_token}
use Rattle.ftn_tree.specs.Extents.{is_some_extent, layer_at, scope_of}
use Rattle.ftn_tree.specs.Meanings.{Key, access_of, all_exports, exports_after, exports_from, list_if_known, module_number, module_numbered, own_pairs, same_key, use_at, use_lists}
use Rattle.ftn_tree.specs.NameFaults.{UseStatement, module_uses, use_statement_at, use_statements, used_number}
use Rattle.ftn_tree.specs.Scopes.{all_statements, name_at, own_statements}
use Rattle.scope_bind.proofs.Leading.{same_number}
use Rattle.scope_bind.proofs.Members.{IsIn, all_in, any_filter_map, each_filter, each_flat, each_map, each_of, each_weaker, is_in}
use Rattle.scope_bind.proofs.Natural.{accessible_alike, each_once}
use Rattle.scope_bind.proofs.Rounds.{fixed}

module _ (files : List FileTree) where
  -- the statement names that module
  abbrev names_module : ℕ → Option FormLayer → ℕ → Bool
  names_module file form number = option_map_or (λ token. option_map_or (nat_eq number) (module_number files (name_at files file token)) false) (option_and_then module_token form) false

  known_named : (only : Bool) (items : List UseItem) (found : Option ℕ) → Each (λ (list : UseList). option_map_or (nat_eq list.«module») found false ≡ true) (list_if_known only items found)
  known_named only items None = tt
  known_named only items (Some number) = (same_number number, tt)

  named_at : (file : ℕ) (form : Option FormLayer) → Each (λ (list : UseList). names_module file form list.«module» ≡ true) (use_at files file form)
  named_at file None = tt
  named_at file (Some (Form-F.UseAll token renames)) = known_named false _ (module_number files (name_at files file token))
  named_at file (Some (Form-F.UseOnly token items)) = known_named true _ (module_number files (name_at files file token))
  named_at file (Some other) = tt

  through : {A B : Type 0} (p : B → Bool) (f : A → B) (found : Option A) → option_map_or (λ a. p (f a)) found false ≡ option_map_or p (option_map f found) false
  through p f None = refl
  through p f (Some a) = refl

  abbrev IsUsed : Extent → ℕ → Type 0
  IsUsed e number = list_any (nat_eq number) (filter_map (used_number files e.file) (use_statements files e)) ≡ true

  used_at : (e : Extent) (statement number : ℕ) → IsIn (all_statements e) statement → names_module e.file (layer_at files e.file statement) number ≡ true → IsUsed e number
  used_at e statement number there named =
      let uses_it : UseStatement → Bool = λ (one : UseStatement). option_map_or (nat_eq number) (used_number files e.file one) false in
      sym (any_filter_map (nat_eq number) (used_number files e.file) (use_statements files e))
      ∙ sym (any_filter_map uses_it (use_statement_at files e.file) (all_statements e))
      ∙ is_in (all_statements e) statement there (λ st. option_map_or uses_it (use_statement_at files e.file st) false)
      (sym (through uses_it (λ token. record { statement = statement; name = token }) (option_and_then module_token (layer_at files e.file statement))) ∙ named)

  lists_used : (e : Extent) → Each (λ (list : UseList). IsUsed e list.«module») (use_lists files e)
  lists_used e =
      each_flat (λ (list : UseList). IsUsed e list.«module») (λ statement. use_at files e.file (layer_at files e.file statement)) (own_statements files e)
      (each_weaker (IsIn (all_statements e)) (λ statement. Each (λ (list : UseList). IsUsed e list.«module») (use_at files e.file (layer_at files e.file statement)))
      (λ statement there. each_weaker (λ (list : UseList). names_module e.file (layer_at files e.file statement) list.«module» ≡ true) (λ (list : UseList). IsUsed e list.«module»)
      (λ list named. used_at e statement list.«module» there named) (use_at files e.file (layer_at files e.file statement)) (named_at e.file (layer_at files e.file statement)))
      (own_statements files e)
      (each_filter (IsIn (all_statements e)) (λ statement. is_some_extent e (scope_of files e.file statement)) (all_statements e) (all_in (all_statements e))))

  pub uses_of : (number : ℕ) (e : Extent) → slice_get (module_numbered files) number ≡ Some e → used_by (module_uses files) number ≡ filter_map (used_number files e.file) (use_statements files e)
  uses_of number e at =
      get_or_from_slice_get (module_uses files) number (filter_map (used_number files e.file) (use_statements files e)) []
      (slice_get-map (λ m. filter_map (used_number files m.file) (use_statements files m)) (module_numbered files) number
      ∙ ap (option_map (λ m. filter_map (used_number files m.file) (use_statements files m))) at)

  pub listed_used : (number : ℕ) (e : Extent) → slice_get (module_numbered files) number ≡ Some e → Each (Uses (module_uses files) number) (modules_of (use_lists files e))
  listed_used number e at =
      each_once (Uses (module_uses files) number) nat_eq (map (λ list. list.«module») (use_lists files e))
      (each_map (Uses (module_uses files) number) (λ list. list.«module») (use_lists files e)
      (each_weaker (λ (list : UseList). IsUsed e list.«module») (λ (list : UseList). Uses (module_uses files) number list.«module»)
      (λ list used. subst (λ l. Contains l list.«module») (sym (uses_of number e at)) (Contains-from_any eqb-true list.«module» (filter_map (used_number files e.file) (use_statements files e)) used))
      (use_lists files e) (lists_used e)))

  -- what the modules that it uses export decides what it exports
  exports_local : (number : ℕ) (e : Extent) → slice_get (module_numbered files) number ≡ Some e → (xss yss : List (List (PairOf Key)))
      → ((used : ℕ) → Uses (module_uses files) number used → exports_of xss used ≡ exports_of yss used) → exports_from files xss e ≡ exports_from files yss e
  exports_local number e at xss yss alike =
      ap (λ accessible. exported (own_pairs files accessible e) accessible (access_of files e))
      (accessible_alike same_key yss xss (use_lists files e)
      (each_weaker (Uses (module_uses files) number) (λ used. exports_of xss used ≡ exports_of yss used) alike (modules_of (use_lists files e)) (listed_used number e at)))

  pub all_fixed : (list : List ℕ) → IsOrder (module_uses files) list → (number : ℕ) (e : Extent) → slice_get (module_numbered files) number ≡ Some e
      → exports_of (all_exports files) number ≡ exports_from files (all_exports files) e
  all_fixed list order number e at =
      fixed (exports_from files) (module_numbered files) (exports_after files) (λ rounds. refl) (module_uses files) list order
      (length-map (module_numbered files) (λ m. filter_map (used_number files m.file) (use_statements files m))) exports_local number e at
