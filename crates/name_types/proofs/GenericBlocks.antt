-- Interface blocks by scoping units and names, and what their bodies name.
use Rattle.std.proofs.Common.{◌≡◌, ℕ, ◌<◌, Bool, true, false, not, ◌&&◌, if◌then◌else◌, bytes_eq, List, [], ◌∷◌, length, map, Option, Some, None, refl, sym, ap, ap₂, ◌∙◌, arith}
use Rattle.std.specs.Prelude.{nat_lt, slice_get}
use Rattle.std.specs.List.{filter, filter_map, cons_option, last_or, position}
use Rattle.std.specs.Option.{option_and_then, option_map, option_map_or}
use Rattle.std.proofs.lemmas.Bool.Decides.{nat_tests}
use Rattle.std.proofs.lemmas.Option.{slice_get_within}
use Rattle.ftn_tree.specs.declared.form.Form.{out-Form}
use Rattle.ftn_tree.specs.declared.form.Form.TheOpen.{Form-F}
use Rattle.ftn_tree.specs.declared.table.Extent.{Extent}
use Rattle.ftn_tree.specs.declared.unit.FileTree.{FileTree}
use Rattle.ftn_tree.specs.declared.unit.Statement.{Statement}
use Rattle.ftn_tree.specs.Layers.{FormLayer}
use Rattle.ftn_tree.specs.Extents.{extents, scoping, layer_at, form_in, covers, encloses, host_of, is_interface, is_interface_at, is_some_extent, scope_of}
use Rattle.ftn_tree.specs.Meanings.{Key, unit, is_procedure, external_of, unit_of}
use Rattle.ftn_tree.specs.GlobalNames.{has_no_host}
use Rattle.ftn_tree.specs.Procedures.{bodies_in, generic_block, is_block_named, is_body_in}
use Rattle.ftn_tree.specs.Projects.{AreTrees}
use Rattle.ftn_tree.specs.Scopes.{name_at, scope_kind, scope_name, scope_number}
use Rattle.decl_table.specs.steps.Following.{is_number}
use Rattle.decl_table.proofs.Order.{statements_in}
use Rattle.decl_table.proofs.OwnStatements.{number_of}
use Rattle.name_types.specs.steps.Gathered.{unit_in}
use Rattle.name_types.specs.steps.Generics.{around_number, block_candidate, block_number, named_candidate, token_in, in_place, outside_number, placed_of}
use Rattle.name_types.specs.steps.Index.{candidate, is_at}
use Rattle.name_types.proofs.OutsideUnits.{find_position, found_among}
use Rattle.name_types.proofs.PlacedExtents.{around_test, scope_test}
use Rattle.name_types.proofs.Positions.{position_map, position_same}
use Rattle.name_types.proofs.SpecificNumbers.{Are}

-- ---- where an interface block is

-- a statement that says something is one of its file
within_file : (files : List FileTree) (file statement : ℕ) (layer : FormLayer) → layer_at files file statement ≡ Some layer → statement < statements_in file files
within_file files file statement layer is = by (slice_get files file) is where
  of_tree : (tree : FileTree) (o : Option Statement) → slice_get tree.statements statement ≡ o → option_map out-Form (option_map (λ (s : Statement). s.form) o) ≡ Some layer → statement < length tree.statements
  of_tree tree None there is = absurd (cc is)
  of_tree tree (Some s) there is = slice_get_within tree.statements statement s there

  by : (o : Option FileTree) → option_map out-Form (option_and_then (form_in statement) o) ≡ Some layer → statement < option_map_or (λ (tree : FileTree). length tree.statements) o 0
  by None is = absurd (cc is)
  by (Some tree) is = of_tree tree (slice_get tree.statements statement) refl is

-- what begins there is no scoping unit, so what covers its opening begins before it
same_around : (files : List FileTree) (file opening : ℕ) → is_interface_at (layer_at files file opening) ≡ true → (es : List Extent)
    → filter (covers file opening) (filter (λ e. not (is_interface files e)) es) ≡ filter (encloses file opening) (filter (λ e. not (is_interface files e)) es)
same_around files file opening is [] = refl
same_around files file opening is (y ∷ es) = outer (is_interface files y) refl (same_around files file opening is es) where
  units : List Extent
  units = filter (λ e. not (is_interface files e)) es

  begins : (covers file opening y ≡ true) → (nat_lt y.opening opening ≡ false) → (y.file ≡ file) × (y.opening ≡ opening)
  begins there not_before = (grind (arith, nat_tests), grind (arith, nat_tests))

  pick : (a b : Bool) → covers file opening y ≡ a → nat_lt y.opening opening ≡ b → is_interface files y ≡ false → filter (covers file opening) units ≡ filter (encloses file opening) units
      → (if a then y ∷ filter (covers file opening) units else filter (covers file opening) units) ≡ (if a && b then y ∷ filter (encloses file opening) units else filter (encloses file opening) units)
  pick true true there before unit_it rest = ap (λ us. y ∷ us) rest
  pick true false there before unit_it rest =
      let (same, at) = begins there before in
      absurd (cc (unit_it, is, ap₂ (λ f s. is_interface_at (layer_at files f s)) same at))
  pick false b there before unit_it rest = rest

  outer : (b : Bool) → is_interface files y ≡ b → filter (covers file opening) units ≡ filter (encloses file opening) units
      → filter (covers file opening) (if not b then y ∷ units else units) ≡ filter (encloses file opening) (if not b then y ∷ units else units)
  outer true its rest = rest
  outer false its rest = pick (covers file opening y) (nat_lt y.opening opening) refl refl its rest

block_host : (files : List FileTree) (x : Extent) → is_interface files x ≡ true → scope_of files x.file x.opening ≡ host_of files x
block_host files x is = ap (last_or None) (same_around files x.file x.opening is (extents files))

block_test : (files : List FileTree) → AreTrees files → (n : ℕ) (e : Extent) → slice_get (scoping files) n ≡ Some e → (name : List ℕ) (x : Extent)
    → is_at n name (block_candidate files x) ≡ (is_some_extent e (host_of files x) && is_block_named files x.file name (layer_at files x.file x.opening))
block_test files trees n e here name x = by (layer_at files x.file x.opening) refl where
  never : (b : Bool) → false ≡ (b && false)
  never true = refl
  never false = refl

  by : (layer : Option FormLayer) → layer_at files x.file x.opening ≡ layer
      → is_at n name (option_map_or (named_candidate files x) (token_in layer) (candidate None [])) ≡ (is_some_extent e (host_of files x) && is_block_named files x.file name layer)
  by (Some (Form-F.Interface (Some token))) is =
      ap (λ b. b && bytes_eq (name_at files x.file token) name)
      (scope_test files trees n e here x.file x.opening (within_file files x.file x.opening (Form-F.Interface (Some token)) is)
      ∙ ap (is_some_extent e) (block_host files x (ap is_interface_at is)))
  by (Some (Form-F.Interface None)) is = never (is_some_extent e (host_of files x))
  by other is = never (is_some_extent e (host_of files x))

abbrev pub wanted : List FileTree → Extent → List ℕ → Extent → Bool
wanted files e name x = is_some_extent e (host_of files x) && is_block_named files x.file name (layer_at files x.file x.opening)

pub block_place : (files : List FileTree) → AreTrees files → (n : ℕ) (e : Extent) → slice_get (scoping files) n ≡ Some e → (name : List ℕ)
    → block_number files n name ≡ position (wanted files e name) (extents files)
block_place files trees n e here name =
    position_map (is_at n name) (block_candidate files) (extents files)
    ∙ position_same (λ x. is_at n name (block_candidate files x)) (wanted files e name) (extents files) (block_test files trees n e here name)

pub block_found : (files : List FileTree) → AreTrees files → (n : ℕ) (e : Extent) → slice_get (scoping files) n ≡ Some e → (name : List ℕ)
    → generic_block files e name ≡ option_and_then (slice_get (extents files)) (block_number files n name)
block_found files trees n e here name =
    find_position (wanted files e name) (extents files) ∙ ap (option_and_then (slice_get (extents files))) (sym (block_place files trees n e here name))

-- ---- what bodies name

module _ (files : List FileTree) (trees : AreTrees files) (at : ℕ) (around : Extent) (here : slice_get (extents files) at ≡ Some around) where
  outside_units : (name : List ℕ) (xs : List ℕ) (ks : List Key) → Are files xs (filter_map unit_in ks)
      → Are files (cons_option (outside_number files name) xs) (filter_map unit_in (cons_option (external_of files name) ks))
  outside_units name xs ks are =
      by (unit_of files is_procedure name) (λ x is. found_among (λ e. is_procedure (scope_kind files e) && bytes_eq (scope_name files e) name) (has_no_host files) (scoping files) x is) refl
    where
      by : (o : Option Extent) → ((x : Extent) → unit_of files is_procedure name ≡ Some x → (j : ℕ) × (slice_get (scoping files) j ≡ Some x)) → unit_of files is_procedure name ≡ o
          → Are files (cons_option (option_and_then (scope_number files) (unit_of files is_procedure name)) xs) (filter_map unit_in (cons_option (option_map unit (unit_of files is_procedure name)) ks))
      by None there is = rw is are
      by (Some x) there is =
          let (j, place) = there x is in
          rw (is, number_of files trees j x place) (ap₂ (λ a as'. a ∷ as') place are)

  abbrev bodies_among : List Extent → List Key
  bodies_among es = filter_map (λ body. external_of files (scope_name files body)) (filter (is_body_in files around) (filter (λ e. not (is_interface files e)) es))

  bodies_units : (es : List Extent) → Are files (filter_map (in_place at) (map (placed_of files) es)) (filter_map unit_in (bodies_among es))
  bodies_units [] = refl
  bodies_units (e ∷ es) = by (is_interface files e) (is_number at (around_number files e)) (sym (around_test files trees at around e here)) (bodies_units es) where
    rest_units : List Extent
    rest_units = filter (λ e. not (is_interface files e)) es

    numbers : List ℕ
    numbers = filter_map (in_place at) (map (placed_of files) es)

    by : (b c : Bool) → is_body_in files around e ≡ c → Are files numbers (filter_map unit_in (bodies_among es))
        → Are files (cons_option (if c then (if b then None else outside_number files (scope_name files e)) else None) numbers)
        (filter_map unit_in (filter_map (λ body. external_of files (scope_name files body)) (filter (is_body_in files around) (if not b then e ∷ rest_units else rest_units))))
    by true true test rest = rest
    by true false test rest = rest
    by false true test rest = rw test (outside_units (scope_name files e) numbers (bodies_among es) rest)
    by false false test rest = rw test rest

  pub bodies_are : Are files (filter_map (in_place at) (map (placed_of files) (extents files))) (filter_map unit_in (bodies_in files around))
  bodies_are = bodies_units (extents files)
