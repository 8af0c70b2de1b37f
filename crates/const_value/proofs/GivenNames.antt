-- Where a project has no fault of its constants, the values of its DATA statements name constants.
use Rattle.std.proofs.Common.{◌≡◌, inl, inr, refl, sym, ◌∙◌, ap, subst, ℕ, zero, suc, ◌+◌, ◌-◌, ◌<◌, ◌≤◌, Bool, true, false, List, [], ◌∷◌, ◌++◌, length, map, get_or, Option, Some, None, option_map, arith}
use Rattle.std.specs.List.{enumerate_from, flat_map}
use Rattle.std.specs.Option.{option_map_or}
use Rattle.std.proofs.lemmas.Bool.Decides.{nat_tests}
use Rattle.ftn_base.specs.declared.fault.FaultKind.TheVariants.{NotConstant}
use Rattle.ftn_tree.specs.declared.form.Form.TheOpen.{Form-F}
use Rattle.ftn_tree.specs.declared.intrinsic.Intrinsic.{Intrinsic}
use Rattle.ftn_tree.specs.declared.parts.DataGroup.{DataGroup}
use Rattle.ftn_tree.specs.declared.parts.DataValue.{DataValue}
use Rattle.ftn_tree.specs.declared.table.Extent.{Extent}
use Rattle.ftn_tree.specs.declared.unit.FileTree.{FileTree}
use Rattle.ftn_tree.specs.Cases.{case_findings}
use Rattle.ftn_tree.specs.ConstantFaults.{circular_findings, constant_fault, constant_findings, constant_rank, designators_told, group_told, name_findings, designator_told, name_told, names_of_value, placed_told, scope_findings, statement_told}
use Rattle.ftn_tree.specs.Constants.{constant_if, function_if, known_of, naming_at, naming_of}
use Rattle.ftn_tree.specs.DeclarationFaults.{Finding, fault_of, first_finding, found}
use Rattle.ftn_tree.specs.DeclaredEntities.{names_after}
use Rattle.ftn_tree.specs.EntityValues.{numbered_given}
use Rattle.ftn_tree.specs.Evaluations.{Naming, Stray, reference, stray}
use Rattle.ftn_tree.specs.Extents.{covers, is_body, is_some_extent, layer_at, same_extent, scope_of, scoping}
use Rattle.ftn_tree.specs.Givens.{givens_of}
use Rattle.ftn_tree.specs.GlobalNames.{place}
use Rattle.ftn_tree.specs.Intrinsics.{function_named}
use Rattle.ftn_tree.specs.KeyKinds.{is_constant, key_at, kind_of}
use Rattle.ftn_tree.specs.Layers.{FormLayer}
use Rattle.ftn_tree.specs.Meanings.{Key, unit, own, block, intrinsic_function}
use Rattle.ftn_tree.specs.Projects.{AreTrees}
use Rattle.ftn_tree.specs.Sayings.{sayings}
use Rattle.ftn_tree.specs.Scopes.{all_statements, own_statements}
use Rattle.ftn_tree.specs.Shapes.{all_told}
use Rattle.ftn_tree.specs.Wants.{expressions_at}
use Rattle.decl_table.specs.steps.Rows.{rows_of}
use Rattle.decl_table.proofs.Arounds.{scope_there}
use Rattle.const_expr.specs.declared.naming.Naming.{Naming as KeptNaming}
use Rattle.const_value.specs.declared.measured.Measured.{Measured}
use Rattle.const_value.specs.declared.project.Project.{Project}
use Rattle.const_value.specs.steps.Gathered.{IsGathered}
use Rattle.const_value.specs.steps.Giving.{files_fit, files_given}
use Rattle.const_value.specs.steps.Known.{IsKnown}
use Rattle.const_value.specs.steps.Numbered.{AreEntities, AreNumbered, AreVariables}
use Rattle.const_value.proofs.FindingSets.{In, in_flat, in_left, in_right}
use Rattle.const_value.proofs.GivenFiles.{AreNamed, DataNamed, IsNamedForm, all_given, counted_at, covered_by}
use Rattle.const_value.proofs.GivenLaws.{AreConstants}
use Rattle.const_value.proofs.InLists.{in_at, in_filter, in_range}

-- ---- in lists

in_contained : {X : Type 0} (xs : List X) (k : ℕ) (x : X) → k < length xs → get_or xs k x ≡ x → In x xs
in_contained [] k x less is = absurd (omega (arith, less))
in_contained (y ∷ xs) zero x less is = inl is
in_contained (y ∷ xs) (suc k) x less is = inr (in_contained xs k x (omega (arith, less)) is)

low_end : (file at : ℕ) (e : Extent) → covers file at e ≡ true → e.opening ≤ at
low_end file at e is = grind (arith, nat_tests)

high_end : (file at : ℕ) (e : Extent) → covers file at e ≡ true → at ≤ e.ending
high_end file at e is = grind (arith, nat_tests)

file_end : (file at : ℕ) (e : Extent) → covers file at e ≡ true → e.file ≡ file
file_end file at e is = grind (arith, nat_tests)

same_itself : (e : Extent) → same_extent e e ≡ true
same_itself e = grind (arith, nat_tests)

-- ---- without a finding

pub none_found : (files : List FileTree) → constant_fault files ≡ None → constant_findings files ≡ []
none_found files fine = none_first (constant_findings files) (of (first_finding constant_rank (constant_findings files)) fine) where
  none_first : (all : List Finding) → first_finding constant_rank all ≡ None → all ≡ []
  none_first [] is = refl
  none_first (f ∷ all) is = absurd (cc is)

  of : (o : Option Finding) → option_map (fault_of files) o ≡ None → o ≡ None
  of None is = refl
  of (Some f) is = absurd (cc is)

module _ (files : List FileTree) (file : ℕ) where
  -- a name that isn't told of is a constant's
  name_constant : (token : ℕ) → ((f : Finding) → In f (name_told files file token) → ⊥) → (key : Key) × (key_at files file token ≡ Some key) × (is_constant (kind_of files key) ≡ true)
  name_constant token nothing = by (key_at files file token) refl where
    told : reference token (naming_at files (known_of files) file token) None None ≡ stray token → ⊥
    told is = nothing (found NotConstant (place file token)) (subst (λ x. In (found NotConstant (place file token)) (all_told file x)) (sym is) (inl refl))

    of_function : (o : Option Intrinsic) → reference token (function_if o) None None ≡ stray token
    of_function None = refl
    of_function (Some function) = refl

    of_key : (key : Key) → key_at files file token ≡ Some key → naming_at files (known_of files) file token ≡ constant_if files (known_of files) key
        → (key : Key) × (key_at files file token ≡ Some key) × (is_constant (kind_of files key) ≡ true)
    of_key key some named = either (is_constant (kind_of files key)) refl where
      either : (b : Bool) → is_constant (kind_of files key) ≡ b → (key : Key) × (key_at files file token ≡ Some key) × (is_constant (kind_of files key) ≡ true)
      either true is = (key, some, is)
      either false is = absurd (told (ap (λ n. reference token n None None) (named ∙ other (constant_if files (known_of files) key) refl)))
        where
          other : (n : Naming) → constant_if files (known_of files) key ≡ n → constant_if files (known_of files) key ≡ Stray
          other n same = rw is refl

    by : (o : Option Key) → key_at files file token ≡ o → (key : Key) × (key_at files file token ≡ Some key) × (is_constant (kind_of files key) ≡ true)
    by None none = absurd (told (ap (λ k. reference token (naming_of files (known_of files) k) None None) none))
    by (Some (intrinsic_function name)) some = absurd (told (ap (λ k. reference token (naming_of files (known_of files) k) None None) some ∙ of_function (function_named name)))
    by (Some (unit x)) some = of_key (unit x) some (ap (naming_of files (known_of files)) some)
    by (Some (own e name)) some = of_key (own e name) some (ap (naming_of files (known_of files)) some)
    by (Some (block x)) some = of_key (block x) some (ap (naming_of files (known_of files)) some)

  constants_named : (values : List DataValue) → ((token : ℕ) → In token (flat_map names_of_value values) → (f : Finding) → In f (name_told files file token) → ⊥) → AreConstants files file values
  constants_named [] nothing = tt
  constants_named (v ∷ values) nothing = (
    (λ token there. name_constant token (nothing token (in_left token (names_of_value v) (flat_map names_of_value values) (in_contained (names_of_value v) there.0 token there.1 there.2)))),
    constants_named values (λ token h. nothing token (in_right token (names_of_value v) (flat_map names_of_value values) h)),
  )

  groups_named : (groups : List DataGroup) → ((f : Finding) → In f (flat_map (group_told files file) groups) → ⊥) → AreNamed files file groups
  groups_named [] nothing = tt
  groups_named (grp ∷ groups) nothing = (
    constants_named grp.values (λ token among f told. nothing f
        (in_left f (group_told files file grp) (flat_map (group_told files file) groups)
        (in_right f (flat_map (designator_told files file) grp.objects) (flat_map (name_told files file) (flat_map names_of_value grp.values))
        (in_flat (name_told files file) (flat_map names_of_value grp.values) token f among told)))),
    groups_named groups (λ f h. nothing f (in_right f (group_told files file grp) (flat_map (group_told files file) groups) h)),
  )

  form_named : (layer : FormLayer) → ((f : Finding) → In f (designators_told files file (Some layer)) → ⊥) → IsNamedForm files file layer
  form_named (Form-F.Data groups) nothing = groups_named groups nothing
  form_named other nothing = tt

-- each constant in the values of DATA is named by a constant
pub data_named : (files : List FileTree) → AreTrees files → constant_fault files ≡ None → DataNamed files
data_named files are fine file at e layer found_at is =
    form_named files file layer (λ f h. nothing f
    (in_right f (circular_findings files) (scopes ++ cases)
    (in_left f scopes cases
    (in_flat (scope_findings files) (scoping files) e f among
    (in_left f (flat_map (statement_told files e.file) (own_statements files e)) (flat_map (name_findings files e) (names_after [] (sayings files e)))
    (in_flat (statement_told files e.file) (own_statements files e) at f own_there
    (subst (λ n. In f (statement_told files n at)) (sym file_is)
    (in_right f (flat_map (placed_told files file) (option_map_or expressions_at (layer_at files file at) [])) (designators_told files file (layer_at files file at))
    (subst (λ l. In f (designators_told files file l)) (sym is) h)))))))))
  where
    scopes : List Finding
    scopes = flat_map (scope_findings files) (scoping files)

    cases : List Finding
    cases = flat_map (λ numbered. case_findings files numbered.0 numbered.1) (enumerate_from 0 files)

    nothing : (f : Finding) → In f (constant_findings files) → ⊥
    nothing f h = subst (λ fs. In f fs) (none_found files fine) h

    covered : covers file at e ≡ true
    covered = covered_by files file at e found_at

    file_is : e.file ≡ file
    file_is = file_end file at e covered

    among : In e (scoping files)
    among = let (j, there) = scope_there files are file at (counted_at files file at layer is) e found_at in in_at (scoping files) j e there

    own_there : In at (own_statements files e)
    own_there =
        let low = low_end file at e covered in
        let high = high_end file at e covered in
        in_filter (λ statement. is_some_extent e (scope_of files e.file statement)) (all_statements e) at (in_range e.opening (e.ending + 1 - e.opening) at low (omega (arith, low, high)))
        (ap (λ n. is_some_extent e (scope_of files n at)) file_is ∙ ap (is_some_extent e) found_at ∙ same_itself e)

-- what is given, by what is gathered and known, is what is defined
module _ (files : List FileTree) (p : Project) (g : IsGathered files p) (trees : AreTrees files) (numbered : AreNumbered files) (entities : AreEntities files) (variables : AreVariables files)
    (known : List Measured) (namings : List KeptNaming) (is_known : IsKnown files p known namings) (fine : constant_fault files ≡ None) where
  pub given_is : files_fit p known namings (rows_of p.files.now (scoping p.files.now)) (map (is_body p.files.now) (scoping p.files.now)) 0 p.files.now ≡ true
      → files_given p known namings (rows_of p.files.now (scoping p.files.now)) (map (is_body p.files.now) (scoping p.files.now)) 0 p.files.now ≡ map (numbered_given files) (givens_of files)
  given_is fits =
      ap (λ fs. files_given p known namings (rows_of fs (scoping fs)) (map (is_body fs) (scoping fs)) 0 fs) g.trees
      ∙ all_given files p g trees numbered entities variables known namings is_known (data_named files trees fine)
      (subst (λ fs. files_fit p known namings (rows_of fs (scoping fs)) (map (is_body fs) (scoping fs)) 0 fs ≡ true) g.trees fits)
