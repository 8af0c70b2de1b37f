-- What the statements of a project give, by what is gathered and known of it, is what they are defined to give.
use Rattle.std.proofs.Common.{◌≡◌, refl, sym, ◌∙◌, ap, ap₂, subst, cond, ℕ, suc, ◌+◌, zero, ◌<◌, ℤ, Bool, true, false, List, [], ◌∷◌, ◌++◌, map, length, Option, Some, None, arith}
use Rattle.std.specs.Prelude.{◌&&◌, slice_get}
use Rattle.std.specs.List.{cons_option, enumerate_from, filter, filter_map, flat_map, last_or, list_all, range_with_len}
use Rattle.std.specs.Option.{is_some, option_map, option_map_or, option_and_then, unwrap_or}
use Rattle.std.proofs.lemmas.Bool.{and_parts}
use Rattle.std.proofs.lemmas.Bool.Decides.{nat_tests}
use Rattle.std.proofs.lemmas.List.{map-append}
use Rattle.std.proofs.lemmas.Option.{slice_get-map}
use Rattle.ftn_base.specs.declared.entity.Ty.{Ty}
use Rattle.ftn_base.specs.declared.place.Span.{Span}
use Rattle.ftn_tree.specs.declared.expr.Expr.{Expr}
use Rattle.ftn_tree.specs.declared.form.Form.{out-Form}
use Rattle.ftn_tree.specs.declared.form.Form.TheOpen.{Form-F}
use Rattle.ftn_tree.specs.declared.parts.DataGroup.{DataGroup}
use Rattle.ftn_tree.specs.declared.parts.EntityDecl.{EntityDecl}
use Rattle.ftn_tree.specs.declared.table.EntityKind.{EntityKind}
use Rattle.ftn_tree.specs.declared.table.EntityKind.TheVariants as kinds
use Rattle.ftn_tree.specs.declared.table.Extent.{Extent}
use Rattle.ftn_tree.specs.declared.unit.FileTree.{FileTree}
use Rattle.ftn_tree.specs.declared.unit.Statement.{Statement}
use Rattle.ftn_tree.specs.declared.value.Given.{Given}
use Rattle.ftn_tree.specs.declared.value.Value.{Value}
use Rattle.ftn_tree.specs.Arrays.{axis_from, elements}
use Rattle.ftn_tree.specs.Bindings.{entity_number}
use Rattle.ftn_tree.specs.Circles.{constant_number, constant_uses, constants, is_circular, is_on_circle}
use Rattle.ftn_tree.specs.Constants.{Known, evaluated_in, known_after, known_by, known_of, naming_at, not_known}
use Rattle.ftn_tree.specs.DataTypes as types
use Rattle.ftn_tree.specs.DataTypes.{is_plain_variable}
use Rattle.ftn_tree.specs.EntityValues.{capped, numbered_given}
use Rattle.ftn_tree.specs.Extents.{covers, form_in, is_body, layer_at, scope_of, scoping}
use Rattle.ftn_tree.specs.GlobalNames.{place}
use Rattle.ftn_tree.specs.Givens as spec
use Rattle.ftn_tree.specs.Givens.{entity_given, file_givens, form_givens, givens_of, gives, group_givens, if_variable, key_given, object_in, statement_givens, with_runs}
use Rattle.ftn_tree.specs.KeyKinds.{Datum, datum, datum_of, is_constant, key_at, kind_of}
use Rattle.ftn_tree.specs.Layers.{FormLayer}
use Rattle.ftn_tree.specs.Meanings.{Key, unit, own, block, intrinsic_function}
use Rattle.ftn_tree.specs.Projects.{AreTrees}
use Rattle.ftn_tree.specs.Scopes.{scope_number, span_of}
use Rattle.ftn_tree.specs.Shapes as shapes
use Rattle.ftn_tree.specs.Shapes.{shape}
use Rattle.decl_table.specs.steps.Rows.{Row, number_at, rows_of}
use Rattle.decl_table.proofs.Order.{statements_in}
use Rattle.decl_table.proofs.Arounds.{statement_scope, scope_there}
use Rattle.decl_table.proofs.OwnStatements.{number_of as number_there}
use Rattle.const_expr.specs.Namings.{entity_in}
use Rattle.const_expr.specs.declared.naming.Naming.{Naming}
use Rattle.const_value.specs.declared.measured.Measured.{Measured}
use Rattle.const_value.specs.declared.project.Project.{Project}
use Rattle.const_value.specs.steps.FirstFault.{sight_at}
use Rattle.const_value.specs.steps.Gathered.{IsGathered}
use Rattle.const_value.specs.steps.Giving as steps
use Rattle.const_value.specs.steps.Giving.{declared_by, elements_of, entity_whole, files_fit, files_given, form_by, given_to, group_fits, group_given, name_whole, scope_fits, scope_given, statement_fits, statement_given, statements_fit, statements_given, whole_by, whole_with}
use Rattle.const_value.specs.steps.Known.{IsKnown, measured_of}
use Rattle.const_value.specs.steps.Numbered.{AreEntities, AreNumbered, AreVariables}
use Rattle.const_value.specs.steps.Projects.{name_of}
use Rattle.const_value.specs.steps.References.{file_of}
use Rattle.const_value.specs.steps.Runs.{limited}
use Rattle.const_value.specs.steps.Telling.{Sight, given_by}
use Rattle.const_value.proofs.ExpressionsFor.{known_same, tokens_agree}
use Rattle.const_value.proofs.GivenLaws.{AreConstants, At, Var, at_token, given_is, kept_at, known_at, nothing_at, objects_same, supplies_same, unit_unlike, variable_at, variable_is}
use Rattle.const_value.proofs.GivenTurns.{rowed_fits}
use Rattle.const_value.proofs.GivenValues.{value_there}
use Rattle.const_value.proofs.Rounds.{named_alike, reach_fits, settled, uses_sized}
use Rattle.const_value.proofs.SharedRuns.{capped_limited}
use Rattle.const_value.proofs.TiedNames.{file_there}

-- each constant in the values of these groups is named by a constant
abbrev pub AreNamed : List FileTree → ℕ → List DataGroup → Type 0
AreNamed files file [] = Unit {0}
AreNamed files file (grp ∷ groups) = AreConstants files file grp.values × AreNamed files file groups

abbrev pub IsNamedForm : List FileTree → ℕ → FormLayer → Type 0
IsNamedForm files file (Form-F.Data groups) = AreNamed files file groups
IsNamedForm files file _ = Unit {0}

-- the same in all statements of scoping units
abbrev pub DataNamed : List FileTree → Type 0
DataNamed files = (file at : ℕ) (e : Extent) (layer : FormLayer) → scope_of files file at ≡ Some e → layer_at files file at ≡ Some layer → IsNamedForm files file layer

-- ---- the scoping unit of a statement

last_passes : (test : Extent → Bool) (es : List Extent) (o : Option Extent) (e : Extent) → ((x : Extent) → o ≡ Some x → test x ≡ true) → last_or o (filter test es) ≡ Some e → test e ≡ true
last_passes test [] o e first is = first e is
last_passes test (x ∷ es) o e first is = by (test x) refl is (last_passes test es) where
  by : (b : Bool) → test x ≡ b → last_or o (cond b (x ∷ filter test es) (filter test es)) ≡ Some e
      → ((o : Option Extent) (e : Extent) → ((x : Extent) → o ≡ Some x → test x ≡ true) → last_or o (filter test es) ≡ Some e → test e ≡ true) → test e ≡ true
  by true passes is rest = rest (Some x) e (λ y same. let equal : x ≡ y = cc same in ap test (sym equal) ∙ passes) is
  by false passes is rest = rest o e first is

pub covered_by : (files : List FileTree) (file at : ℕ) (e : Extent) → scope_of files file at ≡ Some e → covers file at e ≡ true
covered_by files file at e is = last_passes (covers file at) (scoping files) None e (λ x none. absurd (cc none)) is

file_covered : (file at : ℕ) (e : Extent) → covers file at e ≡ true → e.file ≡ file
file_covered file at e is = grind (arith, nat_tests)

pub scope_file : (files : List FileTree) (file at : ℕ) (e : Extent) → scope_of files file at ≡ Some e → e.file ≡ file
scope_file files file at e is = file_covered file at e (covered_by files file at e is)

below : {X : Type 0} (xs : List X) (k : ℕ) (x : X) → slice_get xs k ≡ Some x → k < length xs
below [] k x is = absurd (cc is)
below (y ∷ xs) zero x is = omega arith
below (y ∷ xs) (suc k) x is = let rest : k < length xs = below xs k x is in omega (arith, rest)

counted : (files : List FileTree) (file at : ℕ) (tree : FileTree) (x : Statement) → slice_get files file ≡ Some tree → slice_get tree.statements at ≡ Some x → at < statements_in file files
counted files file at tree x there is = subst (λ (o : Option FileTree). at < option_map_or (λ (t : FileTree). length t.statements) o 0) (sym there) (below tree.statements at x is)

pub counted_at : (files : List FileTree) (file at : ℕ) (layer : FormLayer) → layer_at files file at ≡ Some layer → at < statements_in file files
counted_at files file at layer is = by (slice_get files file) refl is where
  inner : (tree : FileTree) → slice_get files file ≡ Some tree → (o : Option Statement) → slice_get tree.statements at ≡ o → option_map out-Form (option_map (λ (s : Statement). s.form) o) ≡ Some layer
      → at < statements_in file files
  inner tree there None none some = absurd (cc some)
  inner tree there (Some x) found some = counted files file at tree x there found

  by : (o : Option FileTree) → slice_get files file ≡ o → option_map out-Form (option_and_then (form_in at) o) ≡ Some layer → at < statements_in file files
  by None none some = absurd (cc some)
  by (Some tree) there some = inner tree there (slice_get tree.statements at) refl some

-- ---- what is known of variables

not_both : (k : EntityKind) → is_plain_variable k ≡ true → is_constant k ≡ true → ⊥
not_both kinds.Variable is constant = absurd (cc constant)
not_both other is constant = absurd (cc is)

pub known_by_others : (files : List FileTree) → AreNumbered files → (key : Key) (d : Datum) → is_circular files key ≡ false → datum_of files key ≡ Some d → known_of files key ≡ known_by files (known_of files) d
known_by_others files numbered key d alone of_key =
    ap (λ b. cond b not_known (option_map_or (known_by files (known_after files rounds)) (datum_of files key) not_known)) alone
    ∙ ap (λ o. option_map_or (known_by files (known_after files rounds)) o not_known) of_key
    ∙ known_same (evaluated_in files (known_after files rounds) d.scope.file) (evaluated_in files (known_of files) d.scope.file) files d
    (tokens_agree (naming_at files (known_after files rounds) d.scope.file) (naming_at files (known_of files) d.scope.file) files d
    (λ token there. named_alike files numbered (known_after files rounds) (known_of files) (key_at files d.scope.file token) (λ other found constant.
    let (y, n, named) = numbered.constant d.scope.file token other found constant in
    let fits = reach_fits (constant_uses files) y in
    let sized = uses_sized files in
    settled files numbered (length (constant_uses files)) y other named.constant fits rounds (suc rounds) (omega (arith, fits, sized)) (omega (arith, fits, sized)))))
  where
    rounds : ℕ
    rounds = length (constants files)

abbrev made : ℕ → ℕ → ℕ → Value → Span → Given
made entity first count v span = record { entity = record { 0 = entity }; first = first; count = count; value = v; span = span }

-- ---- one file

module _ (files : List FileTree) (p : Project) (g : IsGathered files p) (trees : AreTrees files) (numbered : AreNumbered files) (entities : AreEntities files) (variables : AreVariables files)
    (known : List Measured) (namings : List Naming) (is_known : IsKnown files p known namings) where
  abbrev see : ℕ → Sight
  see file = sight_at p known namings file

  variable_value : (file token : ℕ) (e : Extent) (name : List ℕ) → key_at files file token ≡ Some (own e name) → is_plain_variable (kind_of files (own e name)) ≡ true
      → known_of files (own e name) ≡ known_by files (known_of files) (datum e name)
  variable_value file token e name at kind = known_by_others files numbered (own e name) (datum e name) (by (constant_number files (own e name)) refl) refl where
    by : (o : Option ℕ) → constant_number files (own e name) ≡ o → is_circular files (own e name) ≡ false
    by None none = ap (λ o. option_map_or (is_on_circle files) o false) none
    by (Some x) some = absurd (not_both (kind_of files (own e name)) kind (numbered.only file token (own e name) x at some))

  -- ---- declarations

  module _ (file : ℕ) (d : EntityDecl) where
    module _ (e : Extent) (name : List ℕ) (at : key_at files file d.name ≡ Some (own e name)) (a : At files p g trees numbered entities variables known namings is_known file d.name (own e name))
        (kind : is_plain_variable (kind_of files (own e name)) ≡ true) where
      v : Var files p g trees numbered entities variables known namings is_known file d.name e name a
      v = variable_at files p g trees numbered entities variables known namings is_known file d.name e name at kind a

      abbrev m : Measured
      m = measured_of files (known_of files) (datum e name)

      shape_is : shapes.shape_of files (own e name) ≡ option_and_then (λ known. option_map (shape known) m.bounds) m.ty
      shape_is = ap (option_and_then (λ known. option_map (shape known) (shapes.bounds_of files (own e name)))) v.full

      value_is : steps.value_of (see file) v.n m.ty ≡ (known_of files (own e name)).value
      value_is =
          value_there files p g trees (known_of files) v.n (datum e name) v.there (given_by (see (file_of p.names.items v.n)))
          (λ x. given_is files p g trees numbered entities variables known namings is_known (file_of p.names.items v.n) x
          ∙ ap (λ f. evaluated_in files (known_of files) f x) (file_there files p g trees numbered entities v.n (datum e name) v.there)) m.ty refl
          ∙ sym (ap (λ (k : Known). k.value) (variable_value file d.name e name at kind))

      whole_same : (t : Ty) (bounds : List (ℤ × ℤ)) (val : Value)
          → given_to (see file) a.number d.name 0 (capped (elements_of bounds)) val ≡ numbered_given files (spec.whole_given files (place file d.name) (own e name) (shape t bounds) val)
      whole_same t bounds val =
          let none : 0 ≡ capped 0 = omega arith in
          ap (λ i. made i 0 (capped (elements_of bounds)) val (span_of p.files.now file d.name)) (ap (λ o. unwrap_or o 0) (sym a.key_is))
          ∙ ap₂ (λ k c. made (entity_number files (own e name)).0 k c val (span_of p.files.now file d.name)) none (capped_limited (elements (map axis_from bounds)))
          ∙ ap (λ fs. made (entity_number files (own e name)).0 (capped 0) (capped (elements (map axis_from bounds))) val (span_of fs file d.name)) g.trees

      by_shape : (ty : Option Ty) (bounds : Option (List (ℤ × ℤ))) → m.ty ≡ ty
          → cond (is_some ty && true) (option_and_then (whole_with (see file) a.number d.name v.n m.ty) bounds) None
          ≡ option_map (numbered_given files) (option_and_then (λ shape. option_map (spec.whole_given files (place file d.name) (own e name) shape) (known_of files (own e name)).value) (option_and_then (λ known. option_map (shape known) bounds) ty))
      by_shape None bounds is = refl
      by_shape (Some t) None is = refl
      by_shape (Some t) (Some bounds) is = ap (option_map (given_to (see file) a.number d.name 0 (capped (elements_of bounds)))) value_is ∙ by (known_of files (own e name)).value where
        by : (o : Option Value) → option_map (given_to (see file) a.number d.name 0 (capped (elements_of bounds))) o
            ≡ option_map (numbered_given files) (option_map (spec.whole_given files (place file d.name) (own e name) (shape t bounds)) o)
        by None = refl
        by (Some val) = ap Some (whole_same t bounds val)

      name_same : option_and_then (name_whole (see file) a.number d.name) (name_of p.links a.number) ≡ option_map (numbered_given files) (key_given files (place file d.name) (own e name))
      name_same =
          ap (option_and_then (name_whole (see file) a.number d.name)) v.name_is
          ∙ ap (option_and_then (whole_by (see file) a.number d.name v.n)) (known_at files p g trees numbered entities variables known namings is_known file v.n (datum e name) v.there)
          ∙ ap (λ b. cond (is_some m.ty && b) (option_and_then (whole_with (see file) a.number d.name v.n m.ty) m.bounds) None) (kept_at files p g trees numbered entities variables known namings is_known file v.n (datum e name) v.there)
          ∙ by_shape m.ty m.bounds refl
          ∙ sym (ap (λ o. option_map (numbered_given files) (option_and_then (λ shape. option_map (spec.whole_given files (place file d.name) (own e name) shape) (known_of files (own e name)).value) o)) shape_is)

    key_same : (key : Key) → key_at files file d.name ≡ Some key → (a : At files p g trees numbered entities variables known namings is_known file d.name key)
        → entity_whole (see file) d.name a.number ≡ option_map (numbered_given files) (option_and_then (key_given files (place file d.name)) (if_variable files key))
    key_same key at a =
        ap (λ b. cond b (option_and_then (name_whole (see file) a.number d.name) (name_of p.links a.number)) None) (variable_is files p g trees numbered entities variables known namings is_known file d.name key at a)
        ∙ by key at a (is_plain_variable (kind_of files key)) refl
      where
        by : (key : Key) → key_at files file d.name ≡ Some key → (a : At files p g trees numbered entities variables known namings is_known file d.name key) (b : Bool) → is_plain_variable (kind_of files key) ≡ b
            → cond (is_plain_variable (kind_of files key)) (option_and_then (name_whole (see file) a.number d.name) (name_of p.links a.number)) None
            ≡ option_map (numbered_given files) (option_and_then (key_given files (place file d.name)) (cond (is_plain_variable (kind_of files key)) (Some key) None))
        by key at a false kind =
            ap (λ b. cond b (option_and_then (name_whole (see file) a.number d.name) (name_of p.links a.number)) None) kind
            ∙ sym (ap (λ b. option_map (numbered_given files) (option_and_then (key_given files (place file d.name)) (cond b (Some key) None))) kind)
        by (own e name) at a true kind =
            ap (λ b. cond b (option_and_then (name_whole (see file) a.number d.name) (name_of p.links a.number)) None) kind ∙ name_same e name at a kind
            ∙ sym (ap (λ b. option_map (numbered_given files) (option_and_then (key_given files (place file d.name)) (cond b (Some (own e name)) None))) kind)
        by (unit x) at a true kind = absurd (cc (kind, unit_unlike (layer_at files x.file x.opening)))
        by (block x) at a true kind = absurd (cc kind)
        by (intrinsic_function x) at a true kind = absurd (cc kind)

    declared_same : declared_by (see file) d ≡ option_map (numbered_given files) (entity_given files file d)
    declared_same = by d.value where
      whole : (o : Option Key) → key_at files file d.name ≡ o
          → option_and_then (entity_whole (see file) d.name) (entity_in (see file).row d.name) ≡ option_map (numbered_given files) (option_and_then (key_given files (place file d.name)) (option_and_then (if_variable files) o))
      whole None none = ap (option_and_then (entity_whole (see file) d.name)) (nothing_at files p g trees numbered entities variables known namings is_known file d.name none)
      whole (Some key) at =
          let a = at_token files p g trees numbered entities variables known namings is_known file d.name key at in
          ap (option_and_then (entity_whole (see file) d.name)) a.row ∙ key_same key at a

      by : (o : Option Expr) → cond (is_some o) (option_and_then (entity_whole (see file) d.name) (entity_in (see file).row d.name)) None
          ≡ option_map (numbered_given files) (option_and_then (λ (x : Expr). option_and_then (key_given files (place file d.name)) (option_and_then (if_variable files) (key_at files file d.name))) o)
      by None = refl
      by (Some x) = whole (key_at files file d.name) refl

  all_declared : (file : ℕ) (ds : List EntityDecl) → filter_map (declared_by (see file)) ds ≡ map (numbered_given files) (filter_map (entity_given files file) ds)
  all_declared file [] = refl
  all_declared file (d ∷ ds) = ap₂ (λ o rest. cons_option o rest) (declared_same file d) (all_declared file ds) ∙ by (entity_given files file d) where
    by : (o : Option spec.Given) → cons_option (option_map (numbered_given files) o) (map (numbered_given files) (filter_map (entity_given files file) ds)) ≡ map (numbered_given files) (cons_option o (filter_map (entity_given files file) ds))
    by None = refl
    by (Some x) = refl

  -- ---- DATA

  module _ (e : Extent) (scope : ℕ) (unit_there : slice_get (scoping files) scope ≡ Some e) (file : ℕ) (file_is : e.file ≡ file) where
    group_same : (grp : DataGroup) → AreConstants files file grp.values → group_fits (see file) grp ≡ true → group_given (see file) scope grp ≡ map (numbered_given files) (group_givens files e grp)
    group_same grp named fits =
        let none : 0 ≡ limited 0 = omega arith in
        ap (λ k. steps.objects_given (see file) scope (steps.supplies_from (see file) 0 grp.values) k grp.objects) none
        ∙ objects_same files p g trees numbered entities variables known namings is_known file e scope unit_there file_is (steps.supplies_from (see file) 0 grp.values) (with_runs (types.value_of files file) grp.values)
        (supplies_same files p g trees numbered entities variables known namings is_known file 0 grp.values named (rowed_fits (see file) 0 grp.values fits)) 0 grp.objects
        ∙ ap (λ f. map (numbered_given files) (flat_map (λ object. flat_map (gives files f object) (with_runs (types.value_of files f) grp.values)) (filter_map (object_in files f) (with_runs (types.object_of files e) grp.objects)))) (sym file_is)

    groups_same : (groups : List DataGroup) → AreNamed files file groups → list_all (group_fits (see file)) groups ≡ true → flat_map (group_given (see file) scope) groups ≡ map (numbered_given files) (flat_map (group_givens files e) groups)
    groups_same [] named fits = refl
    groups_same (grp ∷ groups) named fits =
        let parts = and_parts (group_fits (see file) grp) (list_all (group_fits (see file)) groups) fits in
        ap₂ (λ (xs ys : List Given). xs ++ ys) (group_same grp named.0 parts.0) (groups_same groups named.1 parts.1)
        ∙ sym (map-append (numbered_given files) (group_givens files e grp) (flat_map (group_givens files e) groups))

    form_same : (layer : FormLayer) → IsNamedForm files file layer → steps.form_fits (see file) layer ≡ true → form_by (see file) scope layer ≡ map (numbered_given files) (form_givens files e (Some layer))
    form_same (Form-F.Declare written attributes colons entities) named fits =
        all_declared file entities ∙ ap (λ f. map (numbered_given files) (filter_map (entity_given files f) entities)) (sym file_is)
    form_same (Form-F.Data groups) named fits = groups_same groups named fits
    form_same other named fits = refl

  -- ---- statements

  abbrev rows : List Row
  rows = rows_of files (scoping files)

  abbrev bodies : List Bool
  bodies = map (is_body files) (scoping files)

  module _ (data_named : DataNamed files) where
    statement_same : (file at : ℕ) (tree : FileTree) (x : Statement) → slice_get files file ≡ Some tree → slice_get tree.statements at ≡ Some x → statement_fits (see file) rows bodies at x ≡ true
        → statement_given (see file) rows bodies at x ≡ map (numbered_given files) (statement_givens files file at (scope_of files file at))
    statement_same file at tree x there is fits =
        ap (λ o. option_map_or (λ scope. scope_given (see file) bodies scope x.form) o []) scope_is
        ∙ by (scope_of files file at) refl (subst (λ (o : Option ℕ). option_map_or (λ scope. scope_fits (see file) bodies scope x.form) o true ≡ true) scope_is fits)
      where
        less : at < statements_in file files
        less = counted files file at tree x there is

        scope_is : number_at rows file at ≡ option_and_then (scope_number files) (scope_of files file at)
        scope_is = statement_scope files trees file at less

        layer_is : layer_at files file at ≡ Some (out-Form x.form)
        layer_is = ap (λ o. option_map out-Form (option_and_then (form_in at) o)) there ∙ ap (λ (o : Option Statement). option_map out-Form (option_map (λ s. s.form) o)) is

        by_body : (e : Extent) (scope : ℕ) → scope_of files file at ≡ Some e → slice_get (scoping files) scope ≡ Some e → (body : Bool) → is_body files e ≡ body
            → cond body true (steps.form_fits (see file) (out-Form x.form)) ≡ true
            → cond body [] (form_by (see file) scope (out-Form x.form)) ≡ map (numbered_given files) (cond body [] (form_givens files e (layer_at files file at)))
        by_body e scope found unit_there true body fits = refl
        by_body e scope found unit_there false body fits =
            form_same e scope unit_there file (scope_file files file at e found) (out-Form x.form) (data_named file at e (out-Form x.form) found layer_is) fits
            ∙ ap (λ o. map (numbered_given files) (form_givens files e o)) (sym layer_is)

        body_at : (scope : ℕ) (e : Extent) → slice_get (scoping files) scope ≡ Some e → unwrap_or (slice_get bodies scope) false ≡ is_body files e
        body_at scope e unit_there = ap (λ o. unwrap_or o false) (slice_get-map (is_body files) (scoping files) scope ∙ ap (option_map (is_body files)) unit_there)

        by : (found : Option Extent) → scope_of files file at ≡ found
            → option_map_or (λ scope. scope_fits (see file) bodies scope x.form) (option_and_then (scope_number files) found) true ≡ true
            → option_map_or (λ scope. scope_given (see file) bodies scope x.form) (option_and_then (scope_number files) found) [] ≡ map (numbered_given files) (statement_givens files file at found)
        by None none fits = refl
        by (Some e) found fits =
            let (scope, unit_there) = scope_there files trees file at less e found in
            let number : scope_number files e ≡ Some scope = number_there files trees scope e unit_there in
            ap (λ o. option_map_or (λ scope. scope_given (see file) bodies scope x.form) o []) number
            ∙ ap (λ b. cond b [] (form_by (see file) scope (out-Form x.form))) (body_at scope e unit_there)
            ∙ by_body e scope found unit_there (is_body files e) refl
            (subst (λ (b : Bool). cond b true (steps.form_fits (see file) (out-Form x.form)) ≡ true) (body_at scope e unit_there)
            (subst (λ (o : Option ℕ). option_map_or (λ scope. scope_fits (see file) bodies scope x.form) o true ≡ true) number fits))

    statements_same : (file at : ℕ) (tree : FileTree) (xs : List Statement) → slice_get files file ≡ Some tree → ((k : ℕ) (x : Statement) → slice_get xs k ≡ Some x → slice_get tree.statements (at + k) ≡ Some x)
        → statements_fit (see file) rows bodies at xs ≡ true
        → statements_given (see file) rows bodies at xs ≡ map (numbered_given files) (flat_map (λ statement. statement_givens files file statement (scope_of files file statement)) (range_with_len at (length xs)))
    statements_same file at tree [] there are fits = refl
    statements_same file at tree (x ∷ xs) there are fits =
        let parts = and_parts (statement_fits (see file) rows bodies at x) (statements_fit (see file) rows bodies (at + 1) xs) fits in
        let none : at + 0 ≡ at = omega arith in
        ap₂ (λ (one more : List Given). one ++ more)
        (statement_same file at tree x there (subst (λ (n : ℕ). slice_get tree.statements n ≡ Some x) none (are 0 x refl)) parts.0)
        (statements_same file (at + 1) tree xs there (λ k y is. let next : at + suc k ≡ at + 1 + k = omega arith in subst (λ (n : ℕ). slice_get tree.statements n ≡ Some y) next (are (suc k) y is)) parts.1)
        ∙ sym (map-append (numbered_given files) (statement_givens files file at (scope_of files file at))
        (flat_map (λ statement. statement_givens files file statement (scope_of files file statement)) (range_with_len (at + 1) (length xs))))

    file_same : (file : ℕ) (tree : FileTree) → slice_get files file ≡ Some tree → statements_fit (see file) rows bodies 0 tree.statements ≡ true
        → statements_given (see file) rows bodies 0 tree.statements ≡ map (numbered_given files) (file_givens files file tree)
    file_same file tree there fits =
        statements_same file 0 tree tree.statements there (λ k x is. let none : k ≡ 0 + k = omega arith in subst (λ (n : ℕ). slice_get tree.statements n ≡ Some x) none is) fits

    files_same : (file : ℕ) (some : List FileTree) → ((k : ℕ) (tree : FileTree) → slice_get some k ≡ Some tree → slice_get files (file + k) ≡ Some tree)
        → files_fit p known namings rows bodies file some ≡ true
        → files_given p known namings rows bodies file some ≡ map (numbered_given files) (flat_map (λ numbered. file_givens files numbered.0 numbered.1) (enumerate_from file some))
    files_same file [] are fits = refl
    files_same file (tree ∷ some) are fits =
        let parts = and_parts (statements_fit (see file) rows bodies 0 tree.statements) (files_fit p known namings rows bodies (file + 1) some) fits in
        let none : file + 0 ≡ file = omega arith in
        ap₂ (λ (one more : List Given). one ++ more)
        (file_same file tree (subst (λ (n : ℕ). slice_get files n ≡ Some tree) none (are 0 tree refl)) parts.0)
        (files_same (file + 1) some (λ k y is. let next : file + suc k ≡ file + 1 + k = omega arith in subst (λ (n : ℕ). slice_get files n ≡ Some y) next (are (suc k) y is)) parts.1)
        ∙ sym (map-append (numbered_given files) (file_givens files file tree) (flat_map (λ numbered. file_givens files numbered.0 numbered.1) (enumerate_from (file + 1) some)))

    pub all_given : files_fit p known namings rows bodies 0 files ≡ true → files_given p known namings rows bodies 0 files ≡ map (numbered_given files) (givens_of files)
    all_given fits = files_same 0 files (λ k tree is. let none : k ≡ 0 + k = omega arith in subst (λ (n : ℕ). slice_get files n ≡ Some tree) none is) fits
