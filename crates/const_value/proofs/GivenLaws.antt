-- What a statement gives, by what is gathered and known of a project, is what it is defined to give.
use Rattle.std.proofs.Common.{◌≡◌, refl, sym, ◌∙◌, ap, ap₂, subst, cond, ℕ, ◌+◌, ◌-◌, ◌≤◌, ◌^◌, ℤ, Bool, true, false, List, [], ◌∷◌, ◌++◌, map, length, Option, Some, None, Contains, append-nil, arith}
use Rattle.std.specs.Prelude.{◌&&◌, ◌||◌, ◌==◌, not, pos, negsuc, slice_get, zip}
use Rattle.std.specs.List.{cons_option, filter_map, flat_map}
use Rattle.std.specs.Option.{is_none, is_some, option_map, option_map_or, option_and_then, unwrap_or}
use Rattle.std.proofs.lemmas.Bool.{and_parts, lt-ltb}
use Rattle.std.proofs.lemmas.Bool.Decides.{nat_tests}
use Rattle.std.proofs.lemmas.List.{map-append}
use Rattle.std.proofs.lemmas.List.Elements.{Contains-append_right, Contains-get_or}
use Rattle.std.proofs.lemmas.Option.{slice_get-map}
use Rattle.ftn_base.specs.declared.entity.Shape.{Shape}
use Rattle.ftn_base.specs.declared.entity.Ty.{Ty}
use Rattle.ftn_tree.specs.declared.expr.Expr.{Expr}
use Rattle.ftn_tree.specs.declared.form.Form.TheOpen.{Form-F}
use Rattle.ftn_tree.specs.declared.parts.DataConstant.{DataConstant}
use Rattle.ftn_tree.specs.declared.parts.DataConstant.TheVariants as constant
use Rattle.ftn_tree.specs.declared.parts.DataValue.{DataValue}
use Rattle.ftn_tree.specs.declared.parts.Designator.{Designator}
use Rattle.ftn_tree.specs.declared.parts.Repeat.{Repeat}
use Rattle.ftn_tree.specs.declared.parts.Repeat.TheVariants as repeat
use Rattle.ftn_tree.specs.declared.table.Extent.{Extent}
use Rattle.ftn_tree.specs.declared.unit.FileTree.{FileTree}
use Rattle.ftn_tree.specs.declared.value.Given.{Given}
use Rattle.ftn_tree.specs.declared.value.Value.{Value}
use Rattle.ftn_tree.specs.declared.value.Value.TheVariants as value
use Rattle.ftn_tree.specs.Arrays.{axis_from, place_in}
use Rattle.ftn_tree.specs.Bindings.{entity_number}
use Rattle.ftn_tree.specs.ConstantFaults.{constant_name, names_of_value, repeat_name}
use Rattle.ftn_tree.specs.Constants.{given, known_of, naming_at, whole_in}
use Rattle.ftn_tree.specs.DataTypes as types
use Rattle.ftn_tree.specs.DataTypes.{count_or_none, is_plain_variable, runs_from}
use Rattle.ftn_tree.specs.EntityValues.{numbered_given}
use Rattle.ftn_tree.specs.Evaluations.{Evaluated, all_values, all_wholes}
use Rattle.ftn_tree.specs.Extents.{layer_at, same_extent, scoping}
use Rattle.ftn_tree.specs.Givens as spec
use Rattle.ftn_tree.specs.Givens.{constant_value, gives, group_givens, object_in, with_runs, with_shape, with_start}
use Rattle.ftn_tree.specs.KeyKinds.{Datum, datum, datum_of, is_constant, key_at, kind_of}
use Rattle.ftn_tree.specs.Layers.{FormLayer}
use Rattle.ftn_tree.specs.Meanings.{Key, unit, own, block, intrinsic_function}
use Rattle.ftn_tree.specs.NameFaults.{said_of}
use Rattle.ftn_tree.specs.Projects.{AreTrees}
use Rattle.ftn_tree.specs.Scopes.{scope_kind, scope_number}
use Rattle.ftn_tree.specs.declared.mention.Role.TheVariants as role
use Rattle.ftn_tree.specs.Roles.{says}
use Rattle.ftn_tree.specs.Sayings.{Saying, member}
use Rattle.ftn_tree.specs.DeclarationFaults.{is_block_data}
use Rattle.ftn_tree.specs.DeclaredEntities.{is_said, unit_kind_at}
use Rattle.ftn_tree.specs.Shapes as shapes
use Rattle.ftn_tree.specs.Shapes.{full_type, shape, type_of}
use Rattle.ftn_tree.specs.Sorts as sorts
use Rattle.const_expr.specs.Namings.{entity_in, naming_by}
use Rattle.const_expr.specs.declared.naming.Naming.{Naming}
use Rattle.decl_table.proofs.OwnStatements.{number_of as number_there, same_number, same_self}
use Rattle.const_value.specs.declared.given_runs.Run.{Run}
use Rattle.const_value.specs.declared.measured.Measured.{Measured}
use Rattle.const_value.specs.declared.project.Project.{Project}
use Rattle.const_value.specs.steps.FirstFault.{sight_at}
use Rattle.const_value.specs.steps.Gathered.{IsGathered, entity_index, key_number, name_number, owned_of}
use Rattle.const_value.specs.steps.Giving as steps
use Rattle.const_value.specs.steps.Giving.{AreRowed, Object, SupplyAs, constant_by, count_by, count_of, elements_of, end_of, group_given, is_object, is_owned, is_variable, is_variable_in, known_of as measured_at, name_at, next_from, next_whole, object_given, object_if, object_of, object_with, objects_given, part_by, place_by, repeat_by, scalar_sort, shared_by, sort_named, start_by, start_of, supplies_from, value_named, whole_count, wholes_by, given_if}
use Rattle.const_value.specs.steps.Known.{IsKnown, measured_of}
use Rattle.const_value.specs.steps.Names.{all_data}
use Rattle.const_value.specs.steps.Numbered.{AreEntities, AreNumbered, AreVariables, IsEntity}
use Rattle.const_value.specs.steps.Projects as projects
use Rattle.const_value.specs.steps.Projects.{name_of, rank_of, row_in, sort_of}
use Rattle.const_value.specs.steps.Runs.{limited}
use Rattle.const_value.specs.steps.Said.{bars}
use Rattle.const_value.specs.steps.Shaping.{is_kept}
use Rattle.const_value.specs.steps.Telling.{Sight, given_by}
use Rattle.const_value.proofs.DataNumbers.{Owner, datum_owner}
use Rattle.const_value.proofs.ExpressionTokens.{expression_agrees}
use Rattle.const_value.proofs.GatheredNames.{name_there, name_within, rank_there, sort_there, written_within}
use Rattle.const_value.proofs.KnownNames.{same_some}
use Rattle.const_value.proofs.SharedRuns.{AllSupplies, nothing_shared, object_same}
use Rattle.const_value.proofs.TiedNames.{entity_there, name_number_there}

-- each constant in values of DATA is named by a constant
abbrev pub AreConstants : List FileTree → ℕ → List DataValue → Type 0
AreConstants files file [] = Unit {0}
AreConstants files file (v ∷ values) =
    ((token : ℕ) → Contains (names_of_value v) token → (key : Key) × (key_at files file token ≡ Some key) × (is_constant (kind_of files key) ≡ true)) × AreConstants files file values

pub unit_unlike : (layer : Option FormLayer) → is_plain_variable (unit_kind_at layer) ≡ false
unit_unlike (Some (Form-F.Program name)) = refl
unit_unlike (Some (Form-F.Module name)) = refl
unit_unlike (Some (Form-F.BlockData joined name)) = refl
unit_unlike (Some (Form-F.Function ty name dummies result)) = refl
unit_unlike other = refl

-- ---- subscripts

wholes_are : (F G : Expr → Evaluated) → ((e : Expr) → F e ≡ G e) → (es : List Expr) → wholes_by F es ≡ option_and_then all_wholes (all_values (map G es))
wholes_are F G same [] = refl
wholes_are F G same (e ∷ es) =
    ap₂ (λ (v : Evaluated) rest. next_whole (whole_in v.value) rest) (same e) (wholes_are F G same es) ∙ by (G e).value (all_values (map G es))
  where
    next : (z : ℤ) (vs : Option (List Value)) → next_whole (Some z) (option_and_then all_wholes vs) ≡ option_and_then all_wholes (option_map (λ rest. value.Whole z ∷ rest) vs)
    next z None = refl
    next z (Some vs) = with_rest (all_wholes vs) where
      with_rest : (zs : Option (List ℤ)) → next_whole (Some z) zs ≡ option_map (λ rest. z ∷ rest) zs
      with_rest None = refl
      with_rest (Some zs) = refl

    never : (v : Value) → whole_in (Some v) ≡ None → (vs : Option (List Value)) → None ≡ option_and_then all_wholes (option_map (λ rest. v ∷ rest) vs)
    never (value.Whole z) is vs = absurd (cc is)
    never (value.Truth t) is None = refl
    never (value.Truth t) is (Some vs) = refl
    never (value.Chars t) is None = refl
    never (value.Chars t) is (Some vs) = refl

    none_next : (zs : Option (List ℤ)) → next_whole None zs ≡ None
    none_next zs = refl

    by : (v : Option Value) (vs : Option (List Value)) → next_whole (whole_in v) (option_and_then all_wholes vs) ≡ option_and_then all_wholes (option_and_then (λ w. option_map (λ rest. w ∷ rest) vs) v)
    by None vs = refl
    by (Some (value.Whole z)) vs = next z vs
    by (Some (value.Truth t)) vs = never (value.Truth t) refl vs
    by (Some (value.Chars t)) vs = never (value.Chars t) refl vs

-- ---- an object without a type, or without a start, gets nothing

partless : (s : Sight) (o : Object) → ((c : DataConstant) (part : Run) → part_by s o c part ≡ None) → (supplies : List SupplyAs) → object_given s o supplies ≡ []
partless s o none [] = refl
partless s o none (supply ∷ supplies) = ap₂ (λ g rest. cons_option g rest) (by (steps.meeting o.run supply.run)) (partless s o none supplies) where
  by : (m : Option Run) → option_and_then (part_by s o supply.constant) m ≡ None
  by None = refl
  by (Some part) = none supply.constant part

typeless : (s : Sight) (o : Object) → o.ty ≡ None → (supplies : List SupplyAs) → object_given s o supplies ≡ []
typeless s o none supplies =
    partless s o (λ c part. ap (λ t. option_and_then (λ known. option_and_then (λ start. option_map (steps.part_given s o known start part) (constant_by s c)) o.start) t) none) supplies

startless : (s : Sight) (o : Object) → o.start ≡ None → (supplies : List SupplyAs) → object_given s o supplies ≡ []
startless s o none supplies =
    partless s o (λ c part. ap (λ k. option_and_then (λ known. option_and_then (λ start. option_map (steps.part_given s o known start part) (constant_by s c)) k) o.ty) none ∙ nothing c part o.ty) supplies
  where
    nothing : (c : DataConstant) (part : Run) (t : Option Ty) → option_and_then (λ known. option_and_then (λ start. option_map (steps.part_given s o known start part) (constant_by s c)) None) t ≡ None
    nothing c part None = refl
    nothing c part (Some known) = refl

-- ---- what is seen of a file

module _ (files : List FileTree) (p : Project) (g : IsGathered files p) (trees : AreTrees files) (numbered : AreNumbered files) (entities : AreEntities files) (variables : AreVariables files)
    (known : List Measured) (namings : List Naming) (is_known : IsKnown files p known namings) (file : ℕ) where
  abbrev pub s : Sight
  s = sight_at p known namings file

  pub given_is : (e : Expr) → given_by s e ≡ given files file e
  given_is e = expression_agrees (naming_by (row_in p.rows.items file) namings) (naming_at files (known_of files) file) e (λ n there. is_known.tokens file n)

  pub known_at : (n : ℕ) (d : Datum) → slice_get (all_data files) n ≡ Some d → slice_get known n ≡ Some (measured_of files (known_of files) d)
  known_at n d there =
      ap (λ xs. slice_get xs n) is_known.names ∙ slice_get-map (measured_of files (known_of files)) (all_data files) n ∙ ap (option_map (measured_of files (known_of files))) there

  pub kept_at : (n : ℕ) (d : Datum) → slice_get (all_data files) n ≡ Some d → is_kept p n ≡ true
  kept_at n d there = ap₂ (λ a b. a && b) (lt-ltb n (length p.names.items) (name_within files p g n d there)) (lt-ltb n (length p.written.items) (written_within files p g n d there))

  -- ---- tokens

  pub record At (token : ℕ) (key : Key) : Type 0 where
    pub number : ℕ
    pub key_is : key_number files key ≡ Some number
    pub entity : IsEntity files number key
    pub row : entity_in s.row token ≡ Some number
    pub kept : projects.entity_in p.bound.now number ≡ Some entity.entity
    pub name : name_of p.links number ≡ name_number files entity.entity

  pub at_token : (token : ℕ) (key : Key) → key_at files file token ≡ Some key → At token key
  at_token token key at =
      let (number, key_is, entity) = entities.tokens file token key at in
      record {
        number = number;
        key_is = key_is;
        entity = entity;
        row = g.tokens file token ∙ ap (option_map (entity_index files)) at ∙ ap Some (ap (λ o. unwrap_or o 0) key_is);
        kept = entity_there files p g trees numbered entities number key entity;
        name = name_number_there files p g trees numbered entities number entity.entity entity.there;
      }

  pub nothing_at : (token : ℕ) → key_at files file token ≡ None → entity_in s.row token ≡ None
  nothing_at token none = g.tokens file token ∙ ap (option_map (entity_index files)) none

  pub variable_is : (token : ℕ) (key : Key) (at : key_at files file token ≡ Some key) (a : At token key) → is_variable p a.number ≡ is_plain_variable (kind_of files key)
  variable_is token key at a = ap (λ o. option_map_or is_variable_in o false) a.kept ∙ variables.kind file token key a.number a.entity.entity at a.key_is a.entity.there

  -- a variable that a name denotes
  pub record Var (token : ℕ) (e : Extent) (name : List ℕ) (a : At token (own e name)) : Type 0 where
    pub n : ℕ
    pub name_is : name_of p.links a.number ≡ Some n
    pub there : slice_get (all_data files) n ≡ Some (datum e name)
    pub full : full_type files (own e name) ≡ type_of files (datum e name)

  pub variable_at : (token : ℕ) (e : Extent) (name : List ℕ) → key_at files file token ≡ Some (own e name) → is_plain_variable (kind_of files (own e name)) ≡ true → (a : At token (own e name)) → Var token e name a
  variable_at token e name at kind a =
      let (n, number, there, full) = variables.own_name file token e name a.number a.entity.entity at kind a.key_is a.entity.there in
      record { n = n; name_is = a.name ∙ number; there = there; full = full }

  -- ---- values

  pub record Const (token : ℕ) (key : Key) : Type 0 where
    pub n : ℕ
    pub d : Datum
    pub key_is : key ≡ own d.scope d.name
    pub name : name_at s token ≡ Some n
    pub there : slice_get (all_data files) n ≡ Some d
    pub kind : is_constant (kind_of files key) ≡ true

  constant_at : (token : ℕ) (key : Key) → key_at files file token ≡ Some key → is_constant (kind_of files key) ≡ true → Const token key
  constant_at token key at kind =
      let (x, n, named) = numbered.constant file token key at kind in
      let a = at_token token key at in
      let of_key : datum_of files key ≡ Some named.datum = ap (datum_of files) named.key_is in
      record {
        n = n;
        d = named.datum;
        key_is = named.key_is;
        name = ap (option_and_then (name_of p.links)) a.row ∙ a.name ∙ a.entity.name named.datum of_key kind ∙ named.name_is;
        there = named.there;
        kind = kind;
      }

  value_there : (token : ℕ) (key : Key) → key_at files file token ≡ Some key → is_constant (kind_of files key) ≡ true → value_named s token ≡ types.value_named files file token
  value_there token key at kind =
      let c = constant_at token key at kind in
      let constant : is_constant (kind_of files (own c.d.scope c.d.name)) ≡ true = ap (λ k. is_constant (kind_of files k)) (sym c.key_is) ∙ kind in
      ap (λ o. option_and_then (λ (m : Measured). m.value) (option_and_then (slice_get known) o)) c.name ∙ ap (option_and_then (λ (m : Measured). m.value)) (known_at c.n c.d c.there)
      ∙ ap (λ b. cond b (known_of files (own c.d.scope c.d.name)).value None) constant ∙ ap (λ k. (known_of files k).value) (sym c.key_is)
      ∙ sym (ap (option_and_then (λ key. (known_of files key).value)) at)

  sort_there_at : (token : ℕ) (key : Key) → key_at files file token ≡ Some key → is_constant (kind_of files key) ≡ true → sort_named s token ≡ types.sort_named files file token
  sort_there_at token key at kind =
      let c = constant_at token key at kind in
      ap (option_and_then (scalar_sort p)) c.name
      ∙ ap (λ b. cond (b && (rank_of p.written.items c.n == 0)) (sort_of p.bound.now p.names.items p.written.items c.n) None) (kept_at c.n c.d c.there)
      ∙ ap₂ (λ r (o : Option sorts.Sort). cond (r == 0) o None) (rank_there files p g c.n c.d c.there) (sort_there files p g c.n c.d c.there trees)
      ∙ sym (ap (option_and_then (types.scalar_sort files)) (ap (datum_of files) c.key_is)) ∙ sym (ap (λ o. option_and_then (types.scalar_sort files) (option_and_then (datum_of files) o)) at)

  count_same : (v : Option Value) → whole_count v ≡ unwrap_or (types.count_in v) 0
  count_same None = refl
  count_same (Some (value.Whole (pos n))) = refl
  count_same (Some (value.Whole (negsuc n))) = refl
  count_same (Some (value.Truth t)) = refl
  count_same (Some (value.Chars t)) = refl

  repeat_same : (r : Option Repeat) → ((token : ℕ) → option_and_then repeat_name r ≡ Some token → (key : Key) × (key_at files file token ≡ Some key) × (is_constant (kind_of files key) ≡ true))
      → repeat_by s r ≡ unwrap_or (types.repeat_count files file r) 0
  repeat_same None named = refl
  repeat_same (Some (repeat.Whole token (pos n))) named = refl
  repeat_same (Some (repeat.Whole token (negsuc n))) named = refl
  repeat_same (Some (repeat.Named token)) named =
      let (key, at, kind) = named token refl in
      ap₂ (λ (o : Option sorts.Sort) v. cond (sorts.is_sort sorts.Whole o) (whole_count v) 0) (sort_there_at token key at kind) (value_there token key at kind)
      ∙ by (sorts.is_sort sorts.Whole (types.sort_named files file token))
    where
      by : (b : Bool) → cond b (whole_count (types.value_named files file token)) 0 ≡ unwrap_or (cond b (types.count_in (types.value_named files file token)) None) 0
      by true = count_same (types.value_named files file token)
      by false = refl

  constant_same : (c : DataConstant) → ((token : ℕ) → constant_name c ≡ Some token → (key : Key) × (key_at files file token ≡ Some key) × (is_constant (kind_of files key) ≡ true))
      → constant_by s c ≡ constant_value files file c
  constant_same (constant.Whole sign token z) named = refl
  constant_same (constant.Truth token t) named = refl
  constant_same (constant.Quoted token text) named = refl
  constant_same (constant.Named token) named = let (key, at, kind) = named token refl in value_there token key at kind

  in_option : (o : Option ℕ) (rest : List ℕ) (token : ℕ) → o ≡ Some token → Contains (cons_option o rest) token
  in_option o rest token is = subst (λ q. Contains (cons_option q rest) token) (sym is) (Contains-get_or (token ∷ rest) 0 token (omega arith))

  in_rest : (o : Option ℕ) (rest : List ℕ) (token : ℕ) → Contains rest token → Contains (cons_option o rest) token
  in_rest None rest token there = there
  in_rest (Some t) rest token there = Contains-append_right (t ∷ []) rest token there

  pub supplies_same : (from : ℕ) (values : List DataValue) → AreConstants files file values → AreRowed from (supplies_from s from values)
      → AllSupplies files s file (supplies_from s from values) (zip values (runs_from from (map (types.value_of files file) values)))
  supplies_same from [] constants rowed = tt
  supplies_same from (v ∷ values) constants rowed =
      let often : repeat_by s v.repeat ≡ unwrap_or (types.repeat_count files file v.repeat) 0 =
      repeat_same v.repeat (λ token is. constants.0 token (in_option (option_and_then repeat_name v.repeat) (cons_option (constant_name v.constant) []) token is)) in
      let fits : from + unwrap_or (types.repeat_count files file v.repeat) 0 ≤ 2 ^ 64 - 1 = subst (λ k. from + k ≤ 2 ^ 64 - 1) often rowed.1 in (
        record {
          constant = constant_same v.constant (λ token is. constants.0 token (in_rest (option_and_then repeat_name v.repeat) (cons_option (constant_name v.constant) []) token (in_option (constant_name v.constant) [] token is)));
          from = refl;
          count = often;
          fits = fits;
        },
        subst (λ k. AllSupplies files s file (supplies_from s (from + repeat_by s v.repeat) values) (zip values (runs_from (from + k) (map (types.value_of files file) values)))) often
            (supplies_same (from + repeat_by s v.repeat) values constants.1 rowed.2),
      )

  -- ---- objects

  module _ (e : Extent) (scope : ℕ) (unit_there : slice_get (scoping files) scope ≡ Some e) (file_is : e.file ≡ file) where
    bits : (m n b : Bool) → (m && not (n && b)) ≡ not (not m || (n && b))
    bits true n b = refl
    bits false n b = refl

    bars_same : (x : Extent) → e ≡ x → (t : Saying) → bars (is_block_data (scope_kind files x)) t ≡ not (types.is_free files e t)
    bars_same x same t =
        bits (member t) (says role.NamedMember t.said) (is_block_data (scope_kind files x))
        ∙ ap (λ y. not (not (member t) || (says role.NamedMember t.said && is_block_data (scope_kind files y)))) (sym same)

    any_same : (f h : Saying → Bool) → ((t : Saying) → f t ≡ h t) → (all : List Saying) → is_said f all ≡ is_said h all
    any_same f h same [] = refl
    any_same f h same (t ∷ all) = ap₂ (λ a b. a || b) (same t) (any_same f h same all)

    equal : (i j : ℕ) → (i == j) ≡ true → i ≡ j
    equal i j is = grind (arith, nat_tests)

    itself : (i : ℕ) → (i == i) ≡ true
    itself i = grind (arith, nat_tests)

    owned_same : (home : Extent) (name : List ℕ) (n : ℕ) → slice_get (all_data files) n ≡ Some (datum home name)
        → is_owned scope (owned_of files (datum home name)) ≡ (same_extent e home && not (is_said (λ t. not (types.is_free files e t)) (said_of files home name)))
    owned_same home name n there = ap (λ o. (unwrap_or o 0 == scope) && not (is_said (bars (is_block_data (scope_kind files home))) (said_of files home name))) number ∙ by (same_extent e home) refl where
      o : Owner files n (datum home name)
      o = datum_owner files n (datum home name) there

      number : scope_number files home ≡ Some o.scope
      number = number_there files trees o.scope home o.there

      by : (b : Bool) → same_extent e home ≡ b
          → ((o.scope == scope) && not (is_said (bars (is_block_data (scope_kind files home))) (said_of files home name)))
          ≡ (same_extent e home && not (is_said (λ t. not (types.is_free files e t)) (said_of files home name)))
      by true is =
          let numbers : scope ≡ o.scope = same_some scope o.scope (sym (number_there files trees scope e unit_there) ∙ same_number files e home is ∙ number) in
          let one : e ≡ home = same_some e home (sym unit_there ∙ ap (slice_get (scoping files)) numbers ∙ o.there) in
          ap (λ k. (o.scope == k) && not (is_said (bars (is_block_data (scope_kind files home))) (said_of files home name))) numbers
          ∙ ap (λ b. b && not (is_said (bars (is_block_data (scope_kind files home))) (said_of files home name))) (itself o.scope)
          ∙ ap not (any_same (bars (is_block_data (scope_kind files home))) (λ t. not (types.is_free files e t)) (bars_same home one) (said_of files home name))
          ∙ sym (ap (λ b. b && not (is_said (λ t. not (types.is_free files e t)) (said_of files home name))) is)
      by false is =
          ap (λ b. b && not (is_said (bars (is_block_data (scope_kind files home))) (said_of files home name))) (apart (o.scope == scope) refl)
          ∙ sym (ap (λ b. b && not (is_said (λ t. not (types.is_free files e t)) (said_of files home name))) is)
        where
          apart : (b : Bool) → (o.scope == scope) ≡ b → (o.scope == scope) ≡ false
          apart false eq = eq
          apart true eq =
              let numbers : o.scope ≡ scope = equal o.scope scope eq in
              let one : home ≡ e = same_some home e (sym o.there ∙ ap (slice_get (scoping files)) numbers ∙ unit_there) in
              let same : same_extent e home ≡ true = ap (same_extent e) one ∙ same_self e in
              absurd (cc (same, is))

    object_test : (token : ℕ) (key : Key) (at : key_at files file token ≡ Some key) (a : At token key) → is_object p scope a.number ≡ types.is_object files e (Some key)
    object_test token key at a =
        ap (λ b. cond b (option_map_or (is_owned scope) (option_and_then (slice_get p.names.items) (name_of p.links a.number)) false) false) (variable_is token key at a) ∙ by key at a
      where
        by : (key : Key) → key_at files file token ≡ Some key → (a : At token key)
            → cond (is_plain_variable (kind_of files key)) (option_map_or (is_owned scope) (option_and_then (slice_get p.names.items) (name_of p.links a.number)) false) false ≡ types.is_object files e (Some key)
        by (unit x) at a = ap (λ b. cond b (option_map_or (is_owned scope) (option_and_then (slice_get p.names.items) (name_of p.links a.number)) false) false) (unit_unlike (layer_at files x.file x.opening))
        by (block b) at a = refl
        by (intrinsic_function n) at a = refl
        by (own home name) at a = of (is_plain_variable (kind_of files (own home name))) refl where
          of : (b : Bool) → is_plain_variable (kind_of files (own home name)) ≡ b
              → cond (is_plain_variable (kind_of files (own home name))) (option_map_or (is_owned scope) (option_and_then (slice_get p.names.items) (name_of p.links a.number)) false) false
              ≡ types.is_object files e (Some (own home name))
          of false kind =
              ap (λ b. cond b (option_map_or (is_owned scope) (option_and_then (slice_get p.names.items) (name_of p.links a.number)) false) false) kind
              ∙ sym (ap (λ b. b && same_extent e home && not (is_said (λ t. not (types.is_free files e t)) (said_of files home name))) kind)
          of true kind =
              let v = variable_at token home name at kind a in
              ap (λ b. cond b (option_map_or (is_owned scope) (option_and_then (slice_get p.names.items) (name_of p.links a.number)) false) false) kind
              ∙ ap (λ o. option_map_or (is_owned scope) (option_and_then (slice_get p.names.items) o) false) v.name_is
              ∙ ap (λ o. option_map_or (is_owned scope) o false) (name_there files p g v.n (datum home name) v.there)
              ∙ owned_same home name v.n v.there
              ∙ sym (ap (λ b. b && same_extent e home && not (is_said (λ t. not (types.is_free files e t)) (said_of files home name))) kind)

    -- ---- one designator

    abbrev run_of : ℕ → Designator → types.Run
    run_of from d = record { token = (types.object_of files e d).token; from = from; count = count_or_none (types.object_of files e d); sort = (types.object_of files e d).sort }

    count_is : (d : Designator) (o : Option Key) → key_at files file d.name ≡ o → count_or_none (types.object_of files e d) ≡ unwrap_or (cond (types.is_object files e o) (types.object_count files o d) None) 0
    count_is d o at = ap (λ q. unwrap_or (cond (types.is_object files e q) (types.object_count files q d) None) 0) (ap (λ f. key_at files f d.name) file_is ∙ at)

    limited_none : (n : ℕ) → limited n ≡ limited (n + 0)
    limited_none n = ap limited (same n) where
      same : (n : ℕ) → n ≡ n + 0
      same n = omega arith

    limited_both : (f c : ℕ) → limited (limited f + limited c) ≡ limited (f + c)
    limited_both f c = omega arith

    module _ (supplies : List SupplyAs) (pairs : List (DataValue × types.Run)) (all : AllSupplies files s file supplies pairs) where
      abbrev due : Option spec.Object → List Given
      due o = map (numbered_given files) (flat_map (λ object. flat_map (gives files file object) pairs) (cons_option o []))

      record Step (from : ℕ) (d : Designator) : Type 0 where
        given : given_if s (object_of s scope d (limited from)) supplies ≡ due (object_in files file (d, run_of from d))
        next : next_from (object_of s scope d (limited from)) (limited from) ≡ limited (from + count_or_none (types.object_of files e d))

      -- an object of no elements
      empty_due : (o : Option spec.Object) → ((object : spec.Object) → o ≡ Some object → object.run.count ≡ 0) → [] ≡ due o
      empty_due None none = refl
      empty_due (Some object) none =
          sym (ap (map (numbered_given files)) (ap (λ xs. xs ++ []) (nothing_shared files file object (none object refl) pairs)))

      run_kept : (run : types.Run) (d : Designator) (o : Option Key) (object : spec.Object) → option_and_then (with_shape files file d run) o ≡ Some object → object.run ≡ run
      run_kept run d None object is = absurd (cc is)
      run_kept run d (Some key) object is = by (shapes.shape_of files key) is where
        by : (t : Option Shape) → option_and_then (λ shape. option_map (with_start key run shape) (spec.start_of files file shape d)) t ≡ Some object → object.run ≡ run
        by None is = absurd (cc is)
        by (Some shape) is = at (spec.start_of files file shape d) is where
          at : (k : Option ℕ) → option_map (with_start key run shape) k ≡ Some object → object.run ≡ run
          at None is = absurd (cc is)
          at (Some k) is = ap (λ (o : spec.Object). o.run) (sym (same_some (with_start key run shape k) object is))

      no_object : (from : ℕ) (d : Designator) → object_of s scope d (limited from) ≡ None → count_or_none (types.object_of files e d) ≡ 0 → Step from d
      no_object from d none count = record {
        given =
            ap (λ o. given_if s o supplies) none
            ∙ empty_due (object_in files file (d, run_of from d)) (λ object is. ap (λ (r : types.Run). r.count) (run_kept (run_of from d) d (key_at files file d.name) object is) ∙ count);
        next = ap (λ o. next_from o (limited from)) none ∙ limited_none from ∙ ap (λ k. limited (from + k)) (sym count);
      }

      module _ (from : ℕ) (d : Designator) (home : Extent) (name : List ℕ) (at : key_at files file d.name ≡ Some (own home name)) (a : At d.name (own home name))
          (object : types.is_object files e (Some (own home name)) ≡ true) where
        kind : is_plain_variable (kind_of files (own home name)) ≡ true
        kind = (and_parts (is_plain_variable (kind_of files (own home name))) (same_extent e home) ((and_parts (is_plain_variable (kind_of files (own home name)) && same_extent e home) _ object).0)).0

        v : Var d.name home name a
        v = variable_at d.name home name at kind a

        abbrev m : Measured
        m = measured_of files (known_of files) (datum home name)

        measured : measured_at s a.number ≡ Some m
        measured = ap (option_and_then (slice_get known)) v.name_is ∙ known_at v.n (datum home name) v.there

        abbrev made : Object
        made = object_with s a.number d (limited from) (Some m)

        object_is : object_of s scope d (limited from) ≡ Some made
        object_is =
            ap (option_and_then (object_if s scope d (limited from))) a.row
            ∙ ap (λ b. cond b (Some (object_with s a.number d (limited from) (measured_at s a.number))) None) (object_test d.name (own home name) at a ∙ object)
            ∙ ap (λ o. Some (object_with s a.number d (limited from) o)) measured

        shape_is : shapes.shape_of files (own home name) ≡ option_and_then (λ known. option_map (shape known) m.bounds) m.ty
        shape_is = ap (option_and_then (λ known. option_map (shape known) (shapes.bounds_of files (own home name)))) v.full

        count_by_same : (ty : Option Ty) (bounds : Option (List (ℤ × ℤ)))
            → option_map_or (λ b. cond (is_some ty) (elements_of b) 0) bounds 0 ≡ limited (unwrap_or (option_map types.elements_of (option_and_then (λ known. option_map (shape known) bounds) ty)) 0)
        count_by_same None None = omega arith
        count_by_same None (Some b) = omega arith
        count_by_same (Some t) None = omega arith
        count_by_same (Some t) (Some b) = refl

        count_same_at : (subscripts : Option (List Expr))
            → count_of (Some m) subscripts ≡ limited (unwrap_or (cond (is_none subscripts) (option_map types.elements_of (shapes.shape_of files (own home name))) (Some 1)) 0)
        count_same_at None = count_by_same m.ty m.bounds ∙ ap (λ o. limited (unwrap_or (option_map types.elements_of o) 0)) (sym shape_is)
        count_same_at (Some subscripts) = omega arith

        abbrev count : ℕ
        count = count_or_none (types.object_of files e d)

        counted : made.run.count ≡ limited count
        counted =
            count_same_at d.subscripts
            ∙ ap limited (sym (count_is d (Some (own home name)) at ∙ ap (λ b. unwrap_or (cond b (types.object_count files (Some (own home name)) d) None) 0) object))

        start_same : (bounds : List (ℤ × ℤ)) (t : Ty) (subscripts : Option (List Expr))
            → start_by s bounds subscripts ≡ option_map limited (option_map_or (λ subscripts. option_and_then (place_in (map axis_from bounds)) (option_and_then all_wholes (all_values (map (given files file) subscripts)))) subscripts (Some 0))
        start_same bounds t None = let none : 0 ≡ limited 0 = omega arith in ap Some none
        start_same bounds t (Some subscripts) =
            ap (option_and_then (place_by bounds)) (wholes_are (given_by s) (given files file) given_is subscripts) ∙ by (option_and_then all_wholes (all_values (map (given files file) subscripts)))
          where
            by : (zs : Option (List ℤ)) → option_and_then (place_by bounds) zs ≡ option_map limited (option_and_then (place_in (map axis_from bounds)) zs)
            by None = refl
            by (Some zs) = refl

        entity_same : a.number ≡ (entity_number files (own home name)).0
        entity_same = ap (λ o. unwrap_or o 0) (sym a.key_is)

        due_is : (ty : Option Ty) (bounds : Option (List (ℤ × ℤ))) → m.ty ≡ ty → m.bounds ≡ bounds
            → object_given s made supplies ≡ due (option_and_then (λ shape. option_map (with_start (own home name) (run_of from d) shape) (spec.start_of files file shape d)) (option_and_then (λ known. option_map (shape known) bounds) ty))
        due_is None bounds ty is = typeless s made ty supplies
        due_is (Some t) None ty is = startless s made (ap (option_and_then (λ bounds. start_by s bounds d.subscripts)) is) supplies
        due_is (Some t) (Some bounds) ty is = by (spec.start_of files file (shape t bounds) d) refl where
          start_is : made.start ≡ option_map limited (spec.start_of files file (shape t bounds) d)
          start_is = ap (option_and_then (λ bounds. start_by s bounds d.subscripts)) is ∙ start_same bounds t d.subscripts

          by : (k : Option ℕ) → spec.start_of files file (shape t bounds) d ≡ k
              → object_given s made supplies ≡ due (option_map (with_start (own home name) (run_of from d) (shape t bounds)) (spec.start_of files file (shape t bounds) d))
          by None none = startless s made (start_is ∙ ap (option_map limited) none) supplies ∙ sym (ap (λ k. due (option_map (with_start (own home name) (run_of from d) (shape t bounds)) k)) none)
          by (Some k) some =
              object_same files s file g.trees refl made (with_start (own home name) (run_of from d) (shape t bounds) k) (record {
                entity = entity_same;
                token = refl;
                ty = ty;
                start = start_is ∙ ap (option_map limited) some;
                from = refl;
                count = counted;
              }) supplies pairs all
              ∙ ap (map (numbered_given files)) (sym (append-nil (flat_map (gives files file (with_start (own home name) (run_of from d) (shape t bounds) k)) pairs)))
              ∙ sym (ap (λ k. due (option_map (with_start (own home name) (run_of from d) (shape t bounds)) k)) some)

        one_object : Step from d
        one_object = record {
          given =
              ap (λ o. given_if s o supplies) object_is ∙ due_is m.ty m.bounds refl refl
              ∙ ap (λ o. due (option_and_then (λ shape. option_map (with_start (own home name) (run_of from d) shape) (spec.start_of files file shape d)) o)) (sym shape_is)
              ∙ ap (λ o. due (option_and_then (with_shape files file d (run_of from d)) o)) (sym at);
          next = ap (λ o. next_from o (limited from)) object_is ∙ ap (λ c. limited (limited from + c)) counted ∙ limited_both from count;
        }

      no_entity : (from : ℕ) (d : Designator) → key_at files file d.name ≡ None → Step from d
      no_entity from d none = no_object from d (ap (option_and_then (object_if s scope d (limited from))) (nothing_at d.name none)) (count_is d None none)

      not_object : (from : ℕ) (d : Designator) (key : Key) → key_at files file d.name ≡ Some key → types.is_object files e (Some key) ≡ false → Step from d
      not_object from d key at none =
          let a = at_token d.name key at in
          no_object from d
          (ap (option_and_then (object_if s scope d (limited from))) a.row
          ∙ ap (λ b. cond b (Some (object_with s a.number d (limited from) (measured_at s a.number))) None) (object_test d.name key at a ∙ none))
          (count_is d (Some key) at ∙ ap (λ b. unwrap_or (cond b (types.object_count files (Some key) d) None) 0) none)

      step : (from : ℕ) (d : Designator) → Step from d
      step from d = by (key_at files file d.name) refl where
        of : (key : Key) → key_at files file d.name ≡ Some key → (b : Bool) → types.is_object files e (Some key) ≡ b → Step from d
        of key at false none = not_object from d key at none
        of (own home name) at true some = one_object from d home name at (at_token d.name (own home name) at) some
        of (unit x) at true some = absurd (cc some)
        of (block b) at true some = absurd (cc some)
        of (intrinsic_function n) at true some = absurd (cc some)

        by : (o : Option Key) → key_at files file d.name ≡ o → Step from d
        by None none = no_entity from d none
        by (Some key) at = of key at (types.is_object files e (Some key)) refl

      split : (o : Option spec.Object) (rest : List spec.Object)
          → map (numbered_given files) (flat_map (λ object. flat_map (gives files file object) pairs) (cons_option o rest)) ≡ due o ++ map (numbered_given files) (flat_map (λ object. flat_map (gives files file object) pairs) rest)
      split None rest = refl
      split (Some object) rest =
          map-append (numbered_given files) (flat_map (gives files file object) pairs) (flat_map (λ object. flat_map (gives files file object) pairs) rest)
          ∙ ap (λ xs. map (numbered_given files) xs ++ map (numbered_given files) (flat_map (λ object. flat_map (gives files file object) pairs) rest)) (sym (append-nil (flat_map (gives files file object) pairs)))

      pub objects_same : (from : ℕ) (ds : List Designator) → objects_given s scope supplies (limited from) ds
          ≡ map (numbered_given files) (flat_map (λ object. flat_map (gives files file object) pairs) (filter_map (object_in files file) (zip ds (runs_from from (map (types.object_of files e) ds)))))
      objects_same from [] = refl
      objects_same from (d ∷ ds) =
          let one = step from d in
          ap₂ (λ (xs : List Given) k. xs ++ objects_given s scope supplies k ds) one.given one.next
          ∙ ap (λ (ys : List Given). due (object_in files file (d, run_of from d)) ++ ys) (objects_same (from + count_or_none (types.object_of files e d)) ds)
          ∙ sym (split (object_in files file (d, run_of from d)) (filter_map (object_in files file) (zip ds (runs_from (from + count_or_none (types.object_of files e d)) (map (types.object_of files e) ds)))))
