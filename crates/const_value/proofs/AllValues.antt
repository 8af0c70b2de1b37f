-- What is listed of the entities of a project, and what is given, is what is known of them as values.
use Rattle.std.proofs.Common.{◌≡◌, ℕ, ◌≤◌, true, List, length, map, Option, Some, None, option_map, sym, ap, ◌∙◌}
use Rattle.std.specs.Prelude.{slice_get}
use Rattle.std.specs.Option.{option_and_then}
use Rattle.std.proofs.lemmas.List.{length-map}
use Rattle.std.proofs.lemmas.Option.{slice_get-map}
use Rattle.ftn_base.specs.declared.entity.Shape.{Shape}
use Rattle.ftn_tree.specs.declared.table.Bound.{Bound}
use Rattle.ftn_tree.specs.declared.table.Entity.{Entity}
use Rattle.ftn_tree.specs.declared.unit.FileTree.{FileTree}
use Rattle.ftn_tree.specs.declared.value.Given.{Given}
use Rattle.ftn_tree.specs.declared.value.Kind.{Kind}
use Rattle.ftn_tree.specs.declared.value.Value.{Value}
use Rattle.ftn_tree.specs.declared.value.Values.{Values}
use Rattle.ftn_tree.specs.Bindings.{bound_entities, bound_of}
use Rattle.ftn_tree.specs.ConstantFaults.{constant_fault}
use Rattle.ftn_tree.specs.Constants.{known_of}
use Rattle.ftn_tree.specs.DeclarationFaults.{declaration_fault}
use Rattle.ftn_tree.specs.EntityValues.{holder, values_of}
use Rattle.ftn_tree.specs.Extents.{is_body, scoping}
use Rattle.ftn_tree.specs.NameFaults.{name_fault}
use Rattle.ftn_tree.specs.Projects.{AreTrees}
use Rattle.ftn_tree.specs.Shapes.{shape_of}
use Rattle.ftn_tree.specs.StorageObjects.{takes_storage, units_in}
use Rattle.decl_table.specs.steps.Rows.{rows_of}
use Rattle.const_expr.specs.declared.naming.Naming.{Naming}
use Rattle.const_value.specs.declared.measured.Measured.{Measured}
use Rattle.const_value.specs.declared.project.Project.{Project}
use Rattle.const_value.specs.steps.EntityLists.{constants_from, kinds_from, shapes_from}
use Rattle.const_value.specs.steps.Gathered.{IsGathered}
use Rattle.const_value.specs.steps.Giving.{files_fit, files_given}
use Rattle.const_value.specs.steps.Known.{IsKnown, measured_of}
use Rattle.const_value.specs.steps.Names.{all_data}
use Rattle.const_value.proofs.AllKeys.{all_entities, all_numbered}
use Rattle.const_value.proofs.EntityLaws.{all_constants, all_kinds, all_shapes}
use Rattle.const_value.proofs.GatheredNames.{names_count, written_count}
use Rattle.const_value.proofs.GivenNames.{given_is}
use Rattle.const_value.proofs.NoFindings.{shaped}
use Rattle.const_value.proofs.ShapeUnits.{units_there}
use Rattle.const_value.proofs.VariablesThere.{are_variables}

abbrev listed : List (Option Shape) → List (Option Value) → List (Option Kind) → List Given → Values
listed shapes constants kinds given = record { shapes = shapes; constants = constants; kinds = kinds; given = given }

module _ (files : List FileTree) (are : AreTrees files) (declared : declaration_fault files ≡ None) (bound : name_fault files ≡ None) (fine : constant_fault files ≡ None) where
  -- each shape of a variable or a result takes a storage unit
  pub units_known : (b : Bound) → b ≡ bound_of files → (made : Values) → made ≡ values_of files → (number : ℕ) (entity : Entity) (s : Shape) → slice_get b.tables.entities number ≡ Some entity
      → takes_storage entity.kind ≡ true → slice_get made.shapes number ≡ Some (Some s) → 1 ≤ units_in s
  units_known b tables made is number entity s there takes has = units_there files are declared bound (shaped files fine) number entity s here takes (same_inside shape_here) where
    here : slice_get (bound_entities files) number ≡ Some entity
    here = sym (ap (λ (t : Bound). slice_get t.tables.entities number) tables) ∙ there

    shape_here : Some (option_and_then (shape_of files) (holder files entity)) ≡ Some (Some s)
    shape_here =
        sym (ap (option_map (λ (e : Entity). option_and_then (shape_of files) (holder files e))) here)
        ∙ sym (slice_get-map (λ (e : Entity). option_and_then (shape_of files) (holder files e)) (bound_entities files) number)
        ∙ sym (ap (λ (v : Values). slice_get v.shapes number) is) ∙ has

    same_inside : {x y : Option Shape} → Some x ≡ Some y → x ≡ y
    same_inside same = cc same

  module _ (p : Project) (g : IsGathered files p) (known : List Measured) (namings : List Naming) (is : IsKnown files p known namings) where
    pub names_long : length known ≡ length p.names.items
    names_long = ap length is.names ∙ length-map (all_data files) (measured_of files (known_of files)) ∙ sym (names_count files p g)

    pub written_long : length known ≡ length p.written.items
    written_long = ap length is.names ∙ length-map (all_data files) (measured_of files (known_of files)) ∙ sym (written_count files p g)

    pub values_are : (shapes : List (Option Shape)) (constants : List (Option Value)) (kinds : List (Option Kind)) (given : List Given)
        → shapes ≡ shapes_from p known 0 p.bound.now.tables.entities → constants ≡ constants_from p known 0 p.bound.now.tables.entities → kinds ≡ kinds_from p known 0 p.bound.now.tables.entities
        → given ≡ files_given p known namings (rows_of p.files.now (scoping p.files.now)) (map (is_body p.files.now) (scoping p.files.now)) 0 p.files.now
        → files_fit p known namings (rows_of p.files.now (scoping p.files.now)) (map (is_body p.files.now) (scoping p.files.now)) 0 p.files.now ≡ true
        → listed shapes constants kinds given ≡ values_of files
    values_are shapes constants kinds given shapes_are constants_are kinds_are given_are fits =
        ap (λ s. listed s constants kinds given) (shapes_are ∙ all_shapes files p g are declared bound (shaped files fine) known is.names)
        ∙ ap (λ c. listed (values_of files).shapes c kinds given) (constants_are ∙ all_constants files p g are declared bound (shaped files fine) known is.names)
        ∙ ap (λ k. listed (values_of files).shapes (values_of files).constants k given) (kinds_are ∙ all_kinds files p g are declared bound (shaped files fine) known is.names)
        ∙ ap (listed (values_of files).shapes (values_of files).constants (values_of files).kinds)
        (given_are ∙ given_is files p g are (all_numbered files are bound) (all_entities files are bound) (are_variables files are bound declared (shaped files fine)) known namings is fine fits)
