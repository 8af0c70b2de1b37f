-- What the code keeps of the names in DATA is what is defined, where a project has no fault of its names, declarations and constants.
use Rattle.std.proofs.Common.{◌≡◌, refl, sym, ◌∙◌, ap, ap₂, cond, ℕ, Bool, true, false, List, [], ◌∷◌, map, Option, Some, None, arith}
use Rattle.std.specs.Prelude.{◌&&◌, ◌||◌, ◌==◌, not, slice_get}
use Rattle.std.specs.Option.{is_some, option_map, option_map_or, option_and_then, unwrap_or}
use Rattle.std.proofs.lemmas.Bool.Decides.{nat_tests}
use Rattle.std.proofs.lemmas.Option.{slice_get-map}
use Rattle.ftn_tree.specs.declared.intrinsic.Intrinsic as intrinsics
use Rattle.ftn_tree.specs.declared.mention.Role.TheVariants as role
use Rattle.ftn_tree.specs.declared.table.Entity.{Entity}
use Rattle.ftn_tree.specs.declared.table.EntityKind.{EntityKind}
use Rattle.ftn_tree.specs.declared.table.EntityKind.TheVariants as kinds
use Rattle.ftn_tree.specs.declared.table.Extent.{Extent}
use Rattle.ftn_tree.specs.declared.unit.FileTree.{FileTree}
use Rattle.ftn_tree.specs.Bindings.{bound_entities, same_number}
use Rattle.ftn_tree.specs.ConstantFaults.{constant_fault, name_told}
use Rattle.ftn_tree.specs.Constants.{constant_if, function_if, known_of, naming_at, naming_of}
use Rattle.ftn_tree.specs.DataTypes as types
use Rattle.ftn_tree.specs.DataTypes.{is_plain_variable}
use Rattle.ftn_tree.specs.DeclarationFaults.{declaration_fault, is_block_data}
use Rattle.ftn_tree.specs.DeclaredEntities.{is_said}
use Rattle.ftn_tree.specs.EntityValues.{constant_of_entity, holder, key_of_entity}
use Rattle.ftn_tree.specs.Evaluations.{Naming, Stray, reference, stray}
use Rattle.ftn_tree.specs.Extents.{layer_at, same_extent, scoping}
use Rattle.ftn_tree.specs.Intrinsics.{function_named}
use Rattle.ftn_tree.specs.KeyKinds.{Datum, datum, datum_of, is_constant, key_at, kind_of, rank_of, sort_of}
use Rattle.ftn_tree.specs.Meanings.{Key, unit, own, block, intrinsic_function, same_names}
use Rattle.ftn_tree.specs.NameFaults.{name_fault, said_of}
use Rattle.ftn_tree.specs.Projects.{AreTrees}
use Rattle.ftn_tree.specs.Roles.{says}
use Rattle.ftn_tree.specs.Sayings.{Saying, member}
use Rattle.ftn_tree.specs.Scopes.{scope_kind, scope_number}
use Rattle.ftn_tree.specs.Shapes.{all_told, shape_of}
use Rattle.ftn_tree.specs.Sorts.{Sort}
use Rattle.decl_table.proofs.OwnStatements.{number_of as number_there, same_number as same_unit, same_self}
use Rattle.const_value.specs.declared.project.Project.{Project}
use Rattle.const_value.specs.steps.Gathered.{IsGathered, entity_index, key_number, name_number, owned_of}
use Rattle.const_value.specs.steps.Giving.{is_object, is_owned, is_variable, is_variable_in}
use Rattle.const_value.specs.steps.Names.{all_data}
use Rattle.const_value.specs.steps.Numbered.{AreEntities, AreNumbered, AreVariables, IsEntity}
use Rattle.const_value.specs.steps.Projects as projects
use Rattle.const_value.specs.steps.Projects.{name_of}
use Rattle.const_value.specs.steps.Said.{bars}
use Rattle.const_value.proofs.AllKeys.{all_entities, all_numbered}
use Rattle.const_value.proofs.DataNumbers.{Owner, datum_owner}
use Rattle.const_value.proofs.GatheredNames.{name_there}
use Rattle.const_value.proofs.GivenLaws.{unit_unlike}
use Rattle.const_value.proofs.KeysThere.{denoted_at}
use Rattle.const_value.proofs.KnownNames.{same_some}
use Rattle.const_value.proofs.NoBodies.{no_bodies}
use Rattle.const_value.proofs.NoFindings.{shaped}
use Rattle.const_value.proofs.RealKeys.{IsUnit}
use Rattle.const_value.proofs.TiedNames.{entity_there, name_number_there}
use Rattle.const_value.proofs.VariablesThere.{are_variables, own_parts, passes, token_kind}
use Rattle.name_types.specs.declared.names.Naming.{Naming as KeptNaming}
use Rattle.name_types.specs.declared.names.Setting.{Setting}
use Rattle.type_check.specs.steps.DataBy as steps
use Rattle.type_check.specs.steps.DataBy.{entity_at}
use Rattle.type_check.specs.steps.DataRight.{IsDataRight}
use Rattle.name_types.specs.steps.Gathered.{AreNames, HasNaming}
use Rattle.name_types.specs.steps.Senses as senses

-- ---- a name of which nothing is told as a constant's is one

-- a name that isn't told of is a constant's
name_constant : (files : List FileTree) (file token : ℕ) → name_told files file token ≡ [] → (key : Key) × (key_at files file token ≡ Some key) × (is_constant (kind_of files key) ≡ true)
name_constant files file token nothing = by (key_at files file token) refl where
  told : reference token (naming_at files (known_of files) file token) None None ≡ stray token → ⊥
  told is = cc (sym (ap (all_told file) is) ∙ nothing)

  of_function : (o : Option intrinsics.Intrinsic) → reference token (function_if o) None None ≡ stray token
  of_function None = refl
  of_function (Some function) = refl

  of_key : (key : Key) → key_at files file token ≡ Some key → naming_at files (known_of files) file token ≡ constant_if files (known_of files) key
      → (key : Key) × (key_at files file token ≡ Some key) × (is_constant (kind_of files key) ≡ true)
  of_key key some named = either (is_constant (kind_of files key)) refl where
    either : (b : Bool) → is_constant (kind_of files key) ≡ b → (key : Key) × (key_at files file token ≡ Some key) × (is_constant (kind_of files key) ≡ true)
    either true is = (key, some, is)
    either false is = absurd (told (ap (λ n. reference token n None None) (named ∙ other (constant_if files (known_of files) key) refl)))
      where
        other : (n : Naming) → constant_if files (known_of files) key ≡ n → constant_if files (known_of files) key ≡ Stray
        other n same = rw is refl

  by : (o : Option Key) → key_at files file token ≡ o → (key : Key) × (key_at files file token ≡ Some key) × (is_constant (kind_of files key) ≡ true)
  by None none = absurd (told (ap (λ k. reference token (naming_of files (known_of files) k) None None) none))
  by (Some (intrinsic_function name)) some = absurd (told (ap (λ k. reference token (naming_of files (known_of files) k) None None) some ∙ of_function (function_named name)))
  by (Some (unit x)) some = of_key (unit x) some (ap (naming_of files (known_of files)) some)
  by (Some (own e name)) some = of_key (own e name) some (ap (naming_of files (known_of files)) some)
  by (Some (block x)) some = of_key (block x) some (ap (naming_of files (known_of files)) some)

variable_kind : (k : EntityKind) → is_plain_variable k ≡ true → k ≡ kinds.Variable
variable_kind kinds.Variable is = refl
variable_kind other is = absurd (cc is)

constant_kind : (k : EntityKind) → is_constant k ≡ true → k ≡ kinds.Constant
constant_kind kinds.Constant is = refl
constant_kind other is = absurd (cc is)

module _ (files : List FileTree) (are : AreTrees files) (bound : name_fault files ≡ None) (declared : declaration_fault files ≡ None) (fine : constant_fault files ≡ None)
    (e : Extent) (s : Setting) (file_is : s.file ≡ e.file) (unit_there : slice_get (scoping files) s.scope ≡ Some e) (names : AreNames files s.names.now) where
  abbrev p : Project
  p = s.names.now.project.now

  abbrev g : IsGathered files p
  g = names.gathered

  entities : AreEntities files
  entities = all_entities files are bound

  numbered : AreNumbered files
  numbered = all_numbered files are bound

  variables : AreVariables files
  variables = are_variables files are bound declared (shaped files fine)

  record At (token : ℕ) (key : Key) : Type 0 where
    number : ℕ
    key_is : key_number files key ≡ Some number
    entity : IsEntity files number key
    row : entity_at s token ≡ Some number
    kept : projects.entity_in p.bound.now number ≡ Some entity.entity
    name : name_of p.links number ≡ name_number files entity.entity

  at_token : (token : ℕ) (key : Key) → key_at files s.file token ≡ Some key → At token key
  at_token token key at =
      let (number, key_is, entity) = entities.tokens s.file token key at in
      record {
        number = number;
        key_is = key_is;
        entity = entity;
        row = g.tokens s.file token ∙ ap (option_map (entity_index files)) at ∙ ap Some (ap (λ o. unwrap_or o 0) key_is);
        kept = entity_there files p g are numbered entities number key entity;
        name = name_number_there files p g are numbered entities number entity.entity entity.there;
      }

  nothing_at : (token : ℕ) → key_at files s.file token ≡ None → entity_at s token ≡ None
  nothing_at token none = g.tokens s.file token ∙ ap (option_map (entity_index files)) none

  -- ---- objects

  variable_is : (token : ℕ) (key : Key) (at : key_at files s.file token ≡ Some key) (a : At token key) → is_variable p a.number ≡ is_plain_variable (kind_of files key)
  variable_is token key at a = ap (λ o. option_map_or is_variable_in o false) a.kept ∙ variables.kind s.file token key a.number a.entity.entity at a.key_is a.entity.there

  bits : (m n b : Bool) → (m && not (n && b)) ≡ not (not m || (n && b))
  bits true n b = refl
  bits false n b = refl

  bars_same : (x : Extent) → e ≡ x → (t : Saying) → bars (is_block_data (scope_kind files x)) t ≡ not (types.is_free files e t)
  bars_same x same t =
      bits (member t) (says role.NamedMember t.said) (is_block_data (scope_kind files x))
      ∙ ap (λ y. not (not (member t) || (says role.NamedMember t.said && is_block_data (scope_kind files y)))) (sym same)

  any_same : (f h : Saying → Bool) → ((t : Saying) → f t ≡ h t) → (all : List Saying) → is_said f all ≡ is_said h all
  any_same f h same [] = refl
  any_same f h same (t ∷ all) = ap₂ (λ a b. a || b) (same t) (any_same f h same all)

  equal : (i j : ℕ) → (i == j) ≡ true → i ≡ j
  equal i j is = grind (arith, nat_tests)

  itself : (i : ℕ) → (i == i) ≡ true
  itself i = grind (arith, nat_tests)

  owned_same : (home : Extent) (name : List ℕ) (n : ℕ) → slice_get (all_data files) n ≡ Some (datum home name)
      → is_owned s.scope (owned_of files (datum home name)) ≡ (same_extent e home && not (is_said (λ t. not (types.is_free files e t)) (said_of files home name)))
  owned_same home name n there = ap (λ o. (unwrap_or o 0 == s.scope) && not (is_said (bars (is_block_data (scope_kind files home))) (said_of files home name))) number ∙ by (same_extent e home) refl where
    o : Owner files n (datum home name)
    o = datum_owner files n (datum home name) there

    number : scope_number files home ≡ Some o.scope
    number = number_there files are o.scope home o.there

    by : (b : Bool) → same_extent e home ≡ b
        → ((o.scope == s.scope) && not (is_said (bars (is_block_data (scope_kind files home))) (said_of files home name)))
        ≡ (same_extent e home && not (is_said (λ t. not (types.is_free files e t)) (said_of files home name)))
    by true is =
        let numbers : s.scope ≡ o.scope = same_some s.scope o.scope (sym (number_there files are s.scope e unit_there) ∙ same_unit files e home is ∙ number) in
        let one : e ≡ home = same_some e home (sym unit_there ∙ ap (slice_get (scoping files)) numbers ∙ o.there) in
        ap (λ k. (o.scope == k) && not (is_said (bars (is_block_data (scope_kind files home))) (said_of files home name))) numbers
        ∙ ap (λ b. b && not (is_said (bars (is_block_data (scope_kind files home))) (said_of files home name))) (itself o.scope)
        ∙ ap not (any_same (bars (is_block_data (scope_kind files home))) (λ t. not (types.is_free files e t)) (bars_same home one) (said_of files home name))
        ∙ sym (ap (λ b. b && not (is_said (λ t. not (types.is_free files e t)) (said_of files home name))) is)
    by false is =
        ap (λ b. b && not (is_said (bars (is_block_data (scope_kind files home))) (said_of files home name))) (apart (o.scope == s.scope) refl)
        ∙ sym (ap (λ b. b && not (is_said (λ t. not (types.is_free files e t)) (said_of files home name))) is)
      where
        apart : (b : Bool) → (o.scope == s.scope) ≡ b → (o.scope == s.scope) ≡ false
        apart false eq = eq
        apart true eq =
            let numbers : o.scope ≡ s.scope = equal o.scope s.scope eq in
            let one : home ≡ e = same_some home e (sym o.there ∙ ap (slice_get (scoping files)) numbers ∙ unit_there) in
            let same : same_extent e home ≡ true = ap (same_extent e) one ∙ same_self e in
            absurd (cc (same, is))

  object_test : (token : ℕ) (key : Key) (at : key_at files s.file token ≡ Some key) (a : At token key) → is_object p s.scope a.number ≡ types.is_object files e (Some key)
  object_test token key at a =
      ap (λ b. cond b (option_map_or (is_owned s.scope) (option_and_then (slice_get p.names.items) (name_of p.links a.number)) false) false) (variable_is token key at a) ∙ by key at a
    where
      by : (key : Key) → key_at files s.file token ≡ Some key → (a : At token key)
          → cond (is_plain_variable (kind_of files key)) (option_map_or (is_owned s.scope) (option_and_then (slice_get p.names.items) (name_of p.links a.number)) false) false ≡ types.is_object files e (Some key)
      by (unit x) at a = ap (λ b. cond b (option_map_or (is_owned s.scope) (option_and_then (slice_get p.names.items) (name_of p.links a.number)) false) false) (unit_unlike (layer_at files x.file x.opening))
      by (block b) at a = refl
      by (intrinsic_function n) at a = refl
      by (own home name) at a = of (is_plain_variable (kind_of files (own home name))) refl where
        of : (b : Bool) → is_plain_variable (kind_of files (own home name)) ≡ b
            → cond (is_plain_variable (kind_of files (own home name))) (option_map_or (is_owned s.scope) (option_and_then (slice_get p.names.items) (name_of p.links a.number)) false) false
            ≡ types.is_object files e (Some (own home name))
        of false kind =
            ap (λ b. cond b (option_map_or (is_owned s.scope) (option_and_then (slice_get p.names.items) (name_of p.links a.number)) false) false) kind
            ∙ sym (ap (λ b. b && same_extent e home && not (is_said (λ t. not (types.is_free files e t)) (said_of files home name))) kind)
        of true kind =
            let (n, name_is, there, full) = variables.own_name s.file token home name a.number a.entity.entity at kind a.key_is a.entity.there in
            ap (λ b. cond b (option_map_or (is_owned s.scope) (option_and_then (slice_get p.names.items) (name_of p.links a.number)) false) false) kind
            ∙ ap (λ o. option_map_or (is_owned s.scope) (option_and_then (slice_get p.names.items) o) false) (a.name ∙ name_is)
            ∙ ap (λ o. option_map_or (is_owned s.scope) o false) (name_there files p g n (datum home name) there)
            ∙ owned_same home name n there
            ∙ sym (ap (λ b. b && same_extent e home && not (is_said (λ t. not (types.is_free files e t)) (said_of files home name))) kind)

  object_here : (token : ℕ) (o : Option Key) → key_at files s.file token ≡ o → steps.object_by s token ≡ types.is_object files e o
  object_here token None none = ap (λ o. option_map_or (is_object p s.scope) o false) (nothing_at token none)
  object_here token (Some key) at = let a = at_token token key at in ap (λ o. option_map_or (is_object p s.scope) o false) a.row ∙ object_test token key at a

  -- ---- the key that an entity holds

  own_home : (token : ℕ) (home : Extent) (name : List ℕ) (at : key_at files s.file token ≡ Some (own home name)) (a : At token (own home name)) (k : EntityKind) → kind_of files (own home name) ≡ k
      → holder files a.entity.entity ≡ key_of_entity files k a.entity.entity
  own_home token home name at a k is = ap (λ k. key_of_entity files k a.entity.entity) (token_kind files are bound (own home name) s.file token a.number a.entity.entity at a.key_is a.entity.there ∙ is)

  home_is : (token : ℕ) (home : Extent) (name : List ℕ) (at : key_at files s.file token ≡ Some (own home name)) (a : At token (own home name))
      → option_map (λ x. own x (unwrap_or a.entity.entity.name [])) (option_and_then (slice_get (scoping files)) a.entity.entity.home) ≡ Some (own home name)
  home_is token home name at a =
      ap₂ (λ o m. option_map (λ x. own x (unwrap_or m [])) o) (ap (option_and_then (slice_get (scoping files))) fields.1 ∙ home_there.1) fields.2
    where
      home_there : IsUnit files home
      home_there = let d = denoted_at files are bound (no_bodies files are) s.file token (own home name) at in d.real.0

      number : scope_number files home ≡ Some (home_there.0)
      number = number_there files are home_there.0 home home_there.1

      fields : (a.entity.entity.opens ≡ None) × (a.entity.entity.home ≡ Some (home_there.0)) × (a.entity.entity.name ≡ Some name)
      fields =
          own_parts a.entity.entity.opens a.entity.entity.home a.entity.entity.name home_there.0 name
          (sym (ap (λ o. not (is_some a.entity.entity.opens) && same_number a.entity.entity.home o && same_names a.entity.entity.name (Some name)) number)
          ∙ passes files are bound (own home name) s.file token a.number a.entity.entity at a.key_is a.entity.there)

  listed : {X : Type 0} (f : Entity → Option X) (all : List (Option X)) → all ≡ map f (bound_entities files) → (token : ℕ) (key : Key) (a : At token key)
      → steps.of_entity all (entity_at s token) ≡ f a.entity.entity
  listed f all is token key a =
      ap₂ (λ xs o. steps.of_entity xs o) is a.row
      ∙ ap (option_and_then (λ found. found)) (slice_get-map f (bound_entities files) a.number ∙ ap (option_map f) a.entity.there)

  -- ---- shapes

  shape_listed : (token : ℕ) (key : Key) (a : At token key) → steps.shape_by s token ≡ option_and_then (shape_of files) (holder files a.entity.entity)
  shape_listed token key a = listed (λ entity. option_and_then (shape_of files) (holder files entity)) s.names.now.values.now.shapes (ap (λ v. v.shapes) names.values) token key a

  shape_here : (token : ℕ) (o : Option Key) → key_at files s.file token ≡ o → types.is_object files e o ≡ true → steps.shape_by s token ≡ option_and_then (shape_of files) o
  shape_here token None none is = absurd (cc is)
  shape_here token (Some (unit x)) at is = absurd (cc is)
  shape_here token (Some (block x)) at is = absurd (cc is)
  shape_here token (Some (intrinsic_function x)) at is = absurd (cc is)
  shape_here token (Some (own home name)) at is =
      let a = at_token token (own home name) at in
      let kind : kind_of files (own home name) ≡ kinds.Variable = variable_kind (kind_of files (own home name)) (plain is) in
      shape_listed token (own home name) a ∙ ap (option_and_then (shape_of files)) (own_home token home name at a kinds.Variable kind ∙ home_is token home name at a)
    where
      plain : types.is_object files e (Some (own home name)) ≡ true → is_plain_variable (kind_of files (own home name)) ≡ true
      plain both = first (is_plain_variable (kind_of files (own home name))) (same_extent e home) (not (is_said (λ t. not (types.is_free files e t)) (said_of files home name))) both where
        first : (a b c : Bool) → (a && b && c) ≡ true → a ≡ true
        first true b c both = refl
        first false b c both = absurd (cc both)

  -- ---- values

  value_listed : (token : ℕ) (key : Key) (a : At token key) → steps.value_by s token ≡ constant_of_entity files a.entity.entity
  value_listed token key a = listed (constant_of_entity files) s.names.now.values.now.constants (ap (λ v. v.constants) names.values) token key a

  value_of_constant : (token : ℕ) (home : Extent) (name : List ℕ) → key_at files s.file token ≡ Some (own home name) → is_constant (kind_of files (own home name)) ≡ true
      → steps.value_by s token ≡ (known_of files (own home name)).value
  value_of_constant token home name at constant =
      let a = at_token token (own home name) at in
      let kind : kind_of files (own home name) ≡ kinds.Constant = constant_kind (kind_of files (own home name)) constant in
      let kept = token_kind files are bound (own home name) s.file token a.number a.entity.entity at a.key_is a.entity.there ∙ kind in
      value_listed token (own home name) a
      ∙ ap (λ k. cond (is_named k) (option_and_then (λ key. (known_of files key).value) (holder files a.entity.entity)) None) kept
      ∙ ap (option_and_then (λ key. (known_of files key).value)) (own_home token home name at a kinds.Constant kind ∙ home_is token home name at a)
    where
      is_named : EntityKind → Bool
      is_named kinds.Constant = true
      is_named _ = false

  value_here : (token : ℕ) → name_told files s.file token ≡ [] → steps.value_by s token ≡ types.value_named files s.file token
  value_here token none =
      let (key, at, constant) = name_constant files s.file token none in
      let (x, n, named) = numbered.constant s.file token key at constant in
      let at_own : key_at files s.file token ≡ Some (own named.datum.scope named.datum.name) = at ∙ ap Some named.key_is in
      let is : is_constant (kind_of files (own named.datum.scope named.datum.name)) ≡ true = ap (λ k. is_constant (kind_of files k)) (sym named.key_is) ∙ constant in
      value_of_constant token named.datum.scope named.datum.name at_own is ∙ sym (ap (option_and_then (λ key. (known_of files key).value)) at_own)

  -- ---- types

  naming_here : (token : ℕ) (key : Key) → key_at files s.file token ≡ Some key → (h : HasNaming files s.names.now key) → senses.naming_at s.names.now s.file token ≡ Some h.naming
  naming_here token key at h = ap (option_and_then (slice_get s.names.now.namings.items)) (g.tokens s.file token ∙ ap (option_map (entity_index files)) at) ∙ h.at

  no_naming : (token : ℕ) → key_at files s.file token ≡ None → senses.naming_at s.names.now s.file token ≡ None
  no_naming token none = ap (option_and_then (slice_get s.names.now.namings.items)) (nothing_at token none)

  sort_here : (token : ℕ) (o : Option Key) → key_at files s.file token ≡ o → senses.sort_by s token ≡ option_and_then (sort_of files) (option_and_then (datum_of files) o)
  sort_here token None none = ap (option_and_then senses.sort_of) (no_naming token none)
  sort_here token (Some key) at = let h = names.namings s.file token key at in ap (option_and_then senses.sort_of) (naming_here token key at h) ∙ h.right.sort

  scalar_in : (naming : KeptNaming) (o : Option Datum) → senses.sort_of naming ≡ option_and_then (sort_of files) o → naming.rank ≡ option_map_or (rank_of files) o 0
      → steps.scalar_of naming ≡ option_and_then (types.scalar_sort files) o
  scalar_in naming None sort rank = ap₂ (λ r (t : Option Sort). cond (r == 0) t None) rank sort
  scalar_in naming (Some d) sort rank = ap₂ (λ r (t : Option Sort). cond (r == 0) t None) rank sort

  scalar_here : (token : ℕ) (o : Option Key) → key_at files s.file token ≡ o → steps.scalar_by s token ≡ option_and_then (types.scalar_sort files) (option_and_then (datum_of files) o)
  scalar_here token None none = ap (option_and_then steps.scalar_of) (no_naming token none)
  scalar_here token (Some key) at =
      let h = names.namings s.file token key at in
      ap (option_and_then steps.scalar_of) (naming_here token key at h) ∙ scalar_in h.naming (datum_of files key) h.right.sort h.right.rank

  pub data_right : IsDataRight files e s
  data_right = record {
    file = file_is;
    object = λ token. object_here token (key_at files s.file token) refl ∙ ap (λ f. types.is_object files e (key_at files f token)) file_is;
    shape = λ token is.
        shape_here token (key_at files s.file token) refl (sym (object_here token (key_at files s.file token) refl) ∙ is)
        ∙ ap (λ f. option_and_then (shape_of files) (key_at files f token)) file_is;
    sort = λ token. sort_here token (key_at files s.file token) refl ∙ ap (λ f. option_and_then (sort_of files) (option_and_then (datum_of files) (key_at files f token))) file_is;
    scalar = λ token. scalar_here token (key_at files s.file token) refl ∙ ap (λ f. types.sort_named files f token) file_is;
    value = λ token none. value_here token (ap (λ f. name_told files f token) file_is ∙ none) ∙ ap (λ f. types.value_named files f token) file_is;
  }
