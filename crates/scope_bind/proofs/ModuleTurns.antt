-- What modules export, one module after the other in their order, by the numbers of entities.
use Rattle.std.proofs.Common.{◌≡◌, ℕ, zero, suc, ◌+◌, ◌<◌, ◌≤◌, Bool, true, false, List, [], ◌∷◌, ◌++◌, Vec, map, set, take, length, get_or, Option, Some, None, slice_get, option_map, All, Contains, inl, inr, refl, sym, ap, subst, ◌∙◌, arith, length-set}
use Rattle.std.specs.List.{AllByRecursion as Each}
use Rattle.std.specs.Option.{unwrap_or}
use Rattle.std.proofs.lemmas.Bool.{cases_eq, cases_lt}
use Rattle.std.proofs.lemmas.List.{ext_get_or, get_or-map, get_or-set_other, get_or-set_same, get_or_default, length-map, map_more}
use Rattle.std.proofs.lemmas.List.Elements.{All-from_recursion}
use Rattle.std.proofs.lemmas.Option.{get_or_from_slice_get, slice_get-get_or, slice_get_within, unwrap_or-slice_get}
use Rattle.ftn_base.specs.Accessible.{accessible_of, exports_of, is_same_entity, modules_of}
use Rattle.ftn_base.specs.Exports.{Pair, PairOf, exported}
use Rattle.ftn_base.specs.declared.uses.Access.{Access}
use Rattle.ftn_base.specs.ModuleOrders.{IsOrder}
use Rattle.ftn_base.specs.ModuleUses.{Uses}
use Rattle.ftn_base.specs.declared.uses.UseItem.{UseItem}
use Rattle.ftn_base.specs.declared.uses.UseList.{UseList}
use Rattle.ftn_tree.specs.declared.form.Form.TheOpen.{Form-F}
use Rattle.ftn_tree.specs.declared.table.Extent.{Extent}
use Rattle.ftn_tree.specs.declared.unit.FileTree.{FileTree}
use Rattle.ftn_tree.specs.Layers.{FormLayer}
use Rattle.ftn_tree.specs.Extents.{layer_at, same_extent, scoping}
use Rattle.ftn_tree.specs.GlobalNames.{has_no_host, program_units}
use Rattle.ftn_tree.specs.Meanings as spec
use Rattle.ftn_tree.specs.NameFaults.{module_uses}
use Rattle.ftn_tree.specs.Projects.{AreTrees}
use Rattle.ftn_tree.specs.Scopes.{name_at, own_statements, scope_kind, scope_number}
use Rattle.scope_bind.specs.steps.Exporting.{exported_by, exported_everywhere}
use Rattle.scope_bind.specs.steps.Globals.{no_extent, unit_at}
use Rattle.scope_bind.specs.steps.Meaning.{all_numbered, used_everywhere}
use Rattle.scope_bind.specs.steps.Numbering.{IsNumbered, number}
use Rattle.scope_bind.specs.steps.Uses.{AreLists}
use Rattle.scope_bind.proofs.KeyNumbers.{keys_apart}
use Rattle.scope_bind.proofs.Listed.{all_fixed, listed_used}
use Rattle.scope_bind.proofs.Members.{each_at, each_filter, each_flat, each_of, each_weaker}
use Rattle.scope_bind.proofs.Natural.{accessible_told, exported_told, exports_told}
use Rattle.scope_bind.proofs.OwnKeys.{all_exports_numbered}
use Rattle.scope_bind.proofs.Rounds.{used_before}
use Rattle.scope_bind.proofs.Units.{found, member_number, number_less, unit_is}

each_placed : {A : Type 0} (xs : List A) → Each (λ x. (j : ℕ) × (slice_get xs j ≡ Some x)) xs
each_placed [] = tt
each_placed {A} (x ∷ xs) =
    ((0, refl), each_weaker (λ y. (j : ℕ) × (slice_get xs j ≡ Some y)) (λ y. (j : ℕ) × (slice_get (x ∷ xs) j ≡ Some y)) (λ y at. (suc at.0, at.1)) xs (each_placed xs))

exports_at : {A : Type 0} (xss : List (List (PairOf A))) (n : ℕ) → exports_of xss n ≡ get_or xss n []
exports_at xss n = unwrap_or-slice_get xss n []

module _ (files : List FileTree) where
  -- ---- lists name modules

  known_within : (only : Bool) (items : List UseItem) (name : List ℕ) (number : Option ℕ) → spec.module_number files name ≡ number
      → Each (λ (list : UseList). list.«module» < length (spec.module_numbered files)) (spec.list_if_known only items number)
  known_within only items name None at = tt
  known_within only items name (Some number) at = ((found _ (spec.module_numbered files) number at).0, tt)

  within_at : (file : ℕ) (form : Option FormLayer) → Each (λ (list : UseList). list.«module» < length (spec.module_numbered files)) (spec.use_at files file form)
  within_at file None = tt
  within_at file (Some (Form-F.UseAll token renames)) = known_within false _ (name_at files file token) (spec.module_number files (name_at files file token)) refl
  within_at file (Some (Form-F.UseOnly token items)) = known_within true _ (name_at files file token) (spec.module_number files (name_at files file token)) refl
  within_at file (Some other) = tt

  pub lists_within : (e : Extent) → All (λ (list : UseList). list.«module» < length (spec.module_numbered files)) (spec.use_lists files e)
  lists_within e =
      All-from_recursion (λ (list : UseList). list.«module» < length (spec.module_numbered files)) (spec.use_lists files e)
      (each_flat (λ (list : UseList). list.«module» < length (spec.module_numbered files)) (λ statement. spec.use_at files e.file (layer_at files e.file statement)) (own_statements files e)
      (each_of (λ statement. Each (λ (list : UseList). list.«module» < length (spec.module_numbered files)) (spec.use_at files e.file (layer_at files e.file statement)))
      (λ statement. within_at e.file (layer_at files e.file statement)) (own_statements files e)))

  -- ---- modules are scoping units

  modules_placed : Each (λ e. (j : ℕ) × (slice_get (scoping files) j ≡ Some e)) (spec.module_numbered files)
  modules_placed =
      each_filter (λ e. (j : ℕ) × (slice_get (scoping files) j ≡ Some e)) (λ e. spec.is_module (scope_kind files e)) (program_units files)
      (each_filter (λ e. (j : ℕ) × (slice_get (scoping files) j ≡ Some e)) (has_no_host files) (scoping files) (each_placed (scoping files)))

  pub module_unit : AreTrees files → (n scope : ℕ) (e : Extent) → slice_get (spec.module_numbered files) n ≡ Some e → scope_number files e ≡ Some scope → unit_at files scope ≡ e
  module_unit are n scope e at is =
      let place = each_at (λ m. (j : ℕ) × (slice_get (scoping files) j ≡ Some m)) (spec.module_numbered files) n e modules_placed at in
      let same : Some place.0 ≡ Some scope = sym (member_number files are place.0 e place.1) ∙ is in
      let equal : place.0 ≡ scope = cc in
      subst (λ (k : ℕ). unit_at files k ≡ e) equal (unit_is files place.0 e place.1)

  -- the scoping units of modules, by the numbers of modules
  pub module_scope : (modules : List ℕ) → map (λ (n : ℕ). Some n) modules ≡ map (scope_number files) (spec.module_numbered files) → (n : ℕ) (e : Extent)
      → slice_get (spec.module_numbered files) n ≡ Some e → (n < length modules) × (scope_number files e ≡ Some (get_or modules n 0))
  module_scope modules are n e at =
      let within : n < length (spec.module_numbered files) = slice_get_within (spec.module_numbered files) n e at in
      let size : length modules ≡ length (spec.module_numbered files) =
      sym (length-map modules (λ (k : ℕ). Some k)) ∙ ap length are ∙ length-map (spec.module_numbered files) (scope_number files) in
      let short : n < length modules = omega arith in (
        short,
        sym (sym (get_or-map (λ (k : ℕ). Some k) modules n 0 None short)
            ∙ ap (λ (l : List (Option ℕ)). get_or l n None) are ∙ get_or-map (scope_number files) (spec.module_numbered files) n e None within
            ∙ ap (scope_number files) (get_or_from_slice_get (spec.module_numbered files) n e e at)),
      )

  -- ---- what USE makes accessible, where what the modules of the lists export is known

  pub accessible_as : (exported : List (List Pair)) (e : Extent) → Each (λ j. exports_of exported j ≡ exported_by files j) (modules_of (spec.use_lists files e))
      → accessible_of exported (spec.use_lists files e) ≡ all_numbered files (spec.accessible_from files (spec.all_exports files) e)
  accessible_as exported e alike =
      accessible_told (number files) spec.same_key is_same_entity (IsNumbered files) (λ a b one two. keys_apart files a b one two) (spec.all_exports files) exported (spec.use_lists files e)
      alike (all_exports_numbered files)

  pub accessible_at_end : (e : Extent) → accessible_of (exported_everywhere files) (spec.use_lists files e) ≡ all_numbered files (spec.accessible_in files e)
  accessible_at_end e =
      accessible_as (exported_everywhere files) e
      (each_of (λ j. exports_of (exported_everywhere files) j ≡ exported_by files j) (λ j. exports_told (number files) (spec.all_exports files) j) (modules_of (spec.use_lists files e)))

  -- ---- one module after the other

  pub record IsExported (order : List ℕ) (i : ℕ) (exported : List (List Pair)) : Type 0 where
    pub sized : length exported ≡ length (spec.module_numbered files)
    pub placed : (k : ℕ) → k < i → k < length order → exports_of exported (get_or order k 0) ≡ exported_by files (get_or order k 0)

  module _ (order : List ℕ) (right : IsOrder (module_uses files) order) (i : ℕ) (lt : i < length order) where
    pub known_here : (n : ℕ) → n ≡ get_or order i n → (e : Extent) × (slice_get (spec.module_numbered files) n ≡ Some e)
    known_here n is =
        let known : get_or order i 0 < length (module_uses files) = (right.each i lt).ready.known in
        let size = length-map (spec.module_numbered files) _ in
        let same : n ≡ get_or order i 0 = is ∙ get_or_default order i n 0 lt in
        let within : n < length (spec.module_numbered files) = subst (λ (k : ℕ). k < length (spec.module_numbered files)) (sym same) (subst (λ (k : ℕ). get_or order i 0 < k) size known) in
        (get_or (spec.module_numbered files) n no_extent, slice_get-get_or (spec.module_numbered files) n no_extent within)

    -- the scoping unit of the module that is next
    pub module_here : AreTrees files → (modules : List ℕ) → map (λ (n : ℕ). Some n) modules ≡ map (scope_number files) (spec.module_numbered files) → (scope : ℕ) → scope ≡ get_or modules (get_or order i 0) scope
        → (e : Extent) × (slice_get (spec.module_numbered files) (get_or order i 0) ≡ Some e) × (scope < length (scoping files)) × (unit_at files scope ≡ e)
    module_here are modules told scope is =
        let (e, at) = known_here (get_or order i 0) (get_or_default order i 0 (get_or order i 0) lt) in
        let (short, number) = module_scope modules told (get_or order i 0) e at in
        let here : scope_number files e ≡ Some scope = number ∙ ap Some (sym (is ∙ get_or_default modules (get_or order i 0) scope 0 short)) in
        (e, at, number_less files e scope here, module_unit are (get_or order i 0) scope e at here)

    module _ (exported : List (List Pair)) (so_far : IsExported order i exported) (n : ℕ) (is : n ≡ get_or order i n) (e : Extent) (at : slice_get (spec.module_numbered files) n ≡ Some e) where
      pub accessible_here : accessible_of exported (spec.use_lists files e) ≡ all_numbered files (spec.accessible_from files (spec.all_exports files) e)
      accessible_here =
          accessible_as exported e
          (each_weaker (Uses (module_uses files) n) (λ j. exports_of exported j ≡ exported_by files j) (λ j used. before j used) (modules_of (spec.use_lists files e)) (listed_used files n e at))
        where
          before : (j : ℕ) → Uses (module_uses files) n j → exports_of exported j ≡ exported_by files j
          before j used =
              let same : n ≡ get_or order i 0 = is ∙ get_or_default order i n 0 lt in
              let place = used_before (module_uses files) order right.each i j lt (subst (λ (k : ℕ). Uses (module_uses files) k j) same used) in
              subst (λ (k : ℕ). exports_of exported k ≡ exported_by files k) place.3 (so_far.placed place.0 place.1 place.2)

      pub exported_more : (made : List Pair) → made ≡ all_numbered files (spec.exports_from files (spec.all_exports files) e) → IsExported order (i + 1) (set exported n made)
      exported_more made right_here = record {
        sized = length-set exported n made ∙ so_far.sized;
        placed = λ k less within. elim (cases_eq (get_or order k 0) n) [
          | inl same ↦ subst (λ (m : ℕ). exports_of (set exported n made) m ≡ exported_by files m) (sym same) here
          | inr other ↦ elim (cases_lt k i) [
            | inl old ↦ exports_at (set exported n made) (get_or order k 0) ∙ get_or-set_other exported n (get_or order k 0) made [] other
                ∙ sym (exports_at exported (get_or order k 0)) ∙ so_far.placed k old within
            | inr new ↦ absurd (other (let equal : k ≡ i = omega arith in ap (λ (m : ℕ). get_or order m 0) equal ∙ sym (is ∙ get_or_default order i n 0 lt)))
          ]
        ];
      }
        where
          here : exports_of (set exported n made) n ≡ exported_by files n
          here =
              let within : n < length exported = subst (λ (k : ℕ). n < k) (sym so_far.sized) (slice_get_within (spec.module_numbered files) n e at) in
              exports_at (set exported n made) n ∙ get_or-set_same exported n made [] within ∙ right_here
              ∙ ap (all_numbered files) (sym (all_fixed files order right n e at))

  rounds_long : (rounds : ℕ) → length (spec.exports_after files rounds) ≡ length (spec.module_numbered files)
  rounds_long zero = length-map (spec.module_numbered files) _
  rounds_long (suc rounds) = length-map (spec.module_numbered files) (spec.exports_from files (spec.exports_after files rounds))

  pub all_exported : (order : List ℕ) → IsOrder (module_uses files) order → (i : ℕ) → length order ≤ i → (exported : List (List Pair)) → IsExported order i exported → exported ≡ exported_everywhere files
  all_exported order right i past exported done =
      let long : length (spec.all_exports files) ≡ length (spec.module_numbered files) = rounds_long (length (spec.module_numbered files)) in
      let told : length (exported_everywhere files) ≡ length (spec.all_exports files) = length-map (spec.all_exports files) (all_numbered files) in
      ext_get_or [] exported (exported_everywhere files) (done.sized ∙ sym long ∙ sym told) (λ k lt. at k (subst (λ (m : ℕ). k < m) done.sized lt) (subst (λ (m : ℕ). k < m) (done.sized ∙ sym long) lt))
    where
      at : (k : ℕ) → k < length (spec.module_numbered files) → k < length (spec.all_exports files) → get_or exported k [] ≡ get_or (exported_everywhere files) k []
      at k lt within =
          let size = length-map (spec.module_numbered files) _ in
          let place : Contains order k = right.all k (subst (λ (m : ℕ). k < m) (sym size) lt) in
          let before : place.0 < length order = place.1 in
          let is : get_or order place.0 0 ≡ k = get_or_default order place.0 0 k before ∙ place.2 in
          sym (exports_at exported k)
          ∙ subst (λ (m : ℕ). exports_of exported m ≡ exported_by files m) is (done.placed place.0 (omega arith) before)
          ∙ ap (all_numbered files) (exports_at (spec.all_exports files) k)
          ∙ sym (get_or-map (all_numbered files) (spec.all_exports files) k [] [] within)

  -- ---- one module, by what is its own and what it uses

  pub module_told : (e : Extent) (pairs : List (List (PairOf spec.Key))) (used own made : List Pair) (access : Access) → used ≡ all_numbered files (spec.accessible_from files pairs e)
      → own ≡ all_numbered files (spec.own_pairs files (spec.accessible_from files pairs e) e) → access ≡ spec.access_of files e → made ≡ exported own used access
      → made ≡ all_numbered files (spec.exports_from files pairs e)
  module_told e pairs used own made access here its_own right is =
      is ∙ ap (λ o. exported o used access) its_own
      ∙ ap (λ u. exported (all_numbered files (spec.own_pairs files (spec.accessible_from files pairs e) e)) u access) here
      ∙ ap (exported (all_numbered files (spec.own_pairs files (spec.accessible_from files pairs e) e)) (all_numbered files (spec.accessible_from files pairs e))) right
      ∙ exported_told (number files) (spec.own_pairs files (spec.accessible_from files pairs e) e) (spec.accessible_from files pairs e) (spec.access_of files e)

  pub everywhere_long : length (exported_everywhere files) ≡ length (spec.module_numbered files)
  everywhere_long = length-map (spec.all_exports files) (all_numbered files) ∙ rounds_long (length (spec.module_numbered files))
