-- What is told of the shape of a name by what is gathered and known is what the files define.
use Rattle.std.proofs.Common.{◌≡◌, ◌⊎◌, inl, inr, ℕ, ◌<◌, Bool, true, false, not, cond, List, [], ◌∷◌, ◌++◌, length, Option, Some, None, option_map, refl, sym, ap, ap₂, ◌∙◌, arith}
use Rattle.std.specs.Prelude.{◌==◌, ◌&&◌, ◌||◌, nat_lt, slice_get}
use Rattle.std.specs.List.{find, flat_map, list_any}
use Rattle.std.specs.Option.{is_none, option_and_then, option_map_or, option_or, unwrap_or}
use Rattle.std.proofs.lemmas.Bool.Decides.{nat_tests}
use Rattle.std.proofs.lemmas.Option.{slice_get-map}
use Rattle.ftn_base.specs.declared.fault.FaultKind.TheVariants.{BadShape, NotConstant}
use Rattle.ftn_tree.specs.declared.expr.Expr.{Expr}
use Rattle.ftn_tree.specs.declared.parts.BoundPair.{BoundPair}
use Rattle.ftn_tree.specs.declared.parts.CharLength.{CharLength}
use Rattle.ftn_tree.specs.declared.parts.CharLength.TheVariants as star
use Rattle.ftn_tree.specs.declared.parts.LengthValue.TheVariants as lengths
use Rattle.ftn_tree.specs.declared.parts.TypeSpec.{TypeSpec}
use Rattle.ftn_tree.specs.declared.table.Bound.{Bound}
use Rattle.ftn_tree.specs.declared.table.Entity.{Entity}
use Rattle.ftn_tree.specs.declared.table.EntityKind.{EntityKind}
use Rattle.ftn_tree.specs.declared.unit.FileTree.{FileTree}
use Rattle.ftn_tree.specs.Bindings.{bound_entities}
use Rattle.ftn_tree.specs.Circles.{expressions_of}
use Rattle.ftn_tree.specs.ConstantFaults as faults
use Rattle.ftn_tree.specs.Constants.{given, is_empty_pair, known_of, pairs_of}
use Rattle.ftn_tree.specs.DeclarationFaults.{Finding, found}
use Rattle.ftn_tree.specs.Declarations.{Declared, length_of, type_length, typing_of, written_bounds, written_value}
use Rattle.ftn_tree.specs.DeclaredEntities.{is_said, may_be_own}
use Rattle.ftn_tree.specs.Evaluations.{Evaluated}
use Rattle.ftn_tree.specs.GlobalNames.{place}
use Rattle.ftn_tree.specs.KeyKinds as kinds
use Rattle.ftn_tree.specs.KeyKinds.{Datum, datum, datum_of, is_constant, is_dummy, key_at}
use Rattle.ftn_tree.specs.Meanings.{Key}
use Rattle.ftn_tree.specs.NameFaults as names
use Rattle.ftn_tree.specs.NameFaults.{opens_name, said_of}
use Rattle.ftn_tree.specs.Projects.{AreTrees}
use Rattle.ftn_tree.specs.Sayings.{Saying, answer}
use Rattle.ftn_tree.specs.Shapes as spec
use Rattle.ftn_tree.specs.Shapes.{all_told, breaches_told, has_strays, is_assumed, is_dummy_key, is_none_long, type_of}
use Rattle.ftn_tree.specs.Sorts.{Whole, is_sort}
use Rattle.ftn_tree.specs.Trees.{Tree, refer, no_args, no_section, tree_of}
use Rattle.const_expr.specs.declared.naming.Naming.{Naming}
use Rattle.const_value.specs.declared.measured.Measured.{Measured}
use Rattle.const_value.specs.declared.project.Project.{Project}
use Rattle.const_value.specs.steps.Findings.{told_if}
use Rattle.const_value.specs.steps.Gathered.{IsGathered, entity_index, name_number, own_entity, owned_of}
use Rattle.const_value.specs.steps.Held.{AreHeld, HasKind, HaveKinds, IsAt, IsHeld, IsUnsaid, own_kind}
use Rattle.const_value.specs.steps.Known.{IsKnown, measured_of}
use Rattle.const_value.specs.steps.Lengths.{length_as, length_in}
use Rattle.const_value.specs.steps.Names.{all_data}
use Rattle.const_value.specs.steps.Numbered.{AreEntities}
use Rattle.const_value.specs.steps.Projects.{entity_in, kind_in, kind_of}
use Rattle.const_value.specs.steps.Said.{begins, token_of}
use Rattle.const_value.specs.steps.Shaping.{bound_told, datum_told, given_in, has_star, has_type_some, is_constant_some, is_dummy_at, is_dummy_of, is_dummy_some, is_kept, is_loose, is_loose_bound, is_scalar_whole, is_star, name_told, owned_told, plain_name, star_told, told_with, valueless}
use Rattle.const_value.specs.steps.Written.{WrittenAs, written_of}
use Rattle.const_value.proofs.GatheredNames.{as_typed, name_there, name_within, rank_there, sort_there, typing_is, written_there, written_within}
use Rattle.const_value.proofs.StatementLaws.{flat_alike, given_here, known_there, name_number_there}

any_alike : {X : Type 0} (p q : X → Bool) → ((x : X) → p x ≡ q x) → (xs : List X) → list_any p xs ≡ list_any q xs
any_alike p q same [] = refl
any_alike p q same (x ∷ xs) = ap₂ (λ a b. a || b) (same x) (any_alike p q same xs)

-- ---- where a name begins

begins_by : (a b : Option Saying) → unwrap_or (option_or (option_map token_of a) (option_map token_of b)) 0 ≡ option_map_or (λ (s : Saying). s.said.token) (option_or a b) 0
begins_by None None = refl
begins_by None (Some b) = refl
begins_by (Some a) b = refl

begins_is : (files : List FileTree) (d : Datum) → begins (owned_of files d).said ≡ names.begins (said_of files d.scope d.name)
begins_is files d = begins_by (find opens_name (said_of files d.scope d.name)) (find (λ s. may_be_own s.said.role) (said_of files d.scope d.name))

-- ---- the length `*`

star_is : (o : Option CharLength) → is_star (length_in o) ≡ is_assumed o
star_is None = refl
star_is (Some (star.Whole token z)) = refl
star_is (Some (star.Paren lengths.Assumed)) = refl
star_is (Some (star.Paren (lengths.Given e))) = refl

star_of : (o : Option (TypeSpec × Declared)) → option_map_or (λ t. is_star (length_as t)) (option_map as_typed o) false ≡ option_map_or (λ typing. is_assumed (length_of typing)) o false
star_of None = refl
star_of (Some (ty, d)) = star_is (option_or d.length (type_length ty))

has_star_is : (files : List FileTree) (d : Datum) → has_star (written_of files d) ≡ spec.has_star files d
has_star_is files d = ap (λ o. option_map_or (λ t. is_star (length_as t)) o false) (typing_is files d) ∙ star_of (typing_of files d.scope d.name)

module _ (files : List FileTree) (are : AreTrees files) (p : Project) (g : IsGathered files p) (known : List Measured) (namings : List Naming) (is : IsKnown files p known namings) (entities : AreEntities files)
    (held : AreHeld files) (kinds' : HaveKinds files) where
  -- ---- bounds of dummy arrays

  scalar_there : (n : ℕ) (d : Datum) → slice_get (all_data files) n ≡ Some d
      → cond (is_kept p n) (is_scalar_whole p n) false ≡ ((kinds.rank_of files d == 0) && is_sort Whole (kinds.sort_of files d))
  scalar_there n d there =
      ap (λ b. cond b (is_scalar_whole p n) false) kept ∙ ap₂ (λ r s. (r == 0) && is_sort Whole s) (rank_there files p g n d there) (sort_there files p g n d there are)
    where
      kept : is_kept p n ≡ true
      kept =
          let first : nat_lt n (length p.names.items) ≡ true = within (length p.names.items) (name_within files p g n d there) in
          let second : nat_lt n (length p.written.items) ≡ true = within (length p.written.items) (written_within files p g n d there) in
          ap₂ (λ a b. a && b) first second
        where
          within : (m : ℕ) → n < m → nat_lt n m ≡ true
          within m less = grind (arith, nat_tests)

  entity_there : (number : ℕ) (entity : Entity) → slice_get (bound_entities files) number ≡ Some entity → entity_in p.bound.now number ≡ Some entity
  entity_there number entity there = ap (λ (b : Bound). entity_in b number) g.tables ∙ there

  abbrev by_name : Option ℕ → Bool
  by_name name = option_map_or (λ name. cond (is_kept p name) (is_scalar_whole p name) false) name false

  abbrev by_datum : Option Datum → Bool
  by_datum o = option_map_or (λ d. (kinds.rank_of files d == 0) && is_sort Whole (kinds.sort_of files d)) o false

  dummy_same : (file token : ℕ) → is_dummy_at p file token ≡ is_dummy_key files (key_at files file token)
  dummy_same file token =
      ap (λ o. option_map_or at o false) (g.tokens file token) ∙ by (key_at files file token) refl
    where
      at : ℕ → Bool
      at number = option_map_or (is_dummy_of p number) (entity_in p.bound.now number) false

      of_datum : (key : Key) (o : Option Datum) → datum_of files key ≡ o → (number : ℕ) (entity : Entity) → IsAt files file token key number entity
          → (is_dummy (kinds.kind_of files key) && by_name (name_number files entity)) ≡ (is_dummy (kinds.kind_of files key) && by_datum o)
      of_datum key None none number entity there = ap (λ n. is_dummy (kinds.kind_of files key) && by_name n) (held.none file token key number entity there none)
      of_datum key (Some d) some number entity there = either (held.names file token key number entity there d some) where
        either : IsHeld files entity d ⊎ IsUnsaid files key entity d → (is_dummy (kinds.kind_of files key) && by_name (name_number files entity)) ≡ (is_dummy (kinds.kind_of files key) && by_datum (Some d))
        either (inl h) = ap (λ n. is_dummy (kinds.kind_of files key) && by_name n) h.number_is ∙ ap (λ b. is_dummy (kinds.kind_of files key) && b) (scalar_there h.number d h.there)
        either (inr u) = ap (λ b. b && by_name (name_number files entity)) u.no_dummy ∙ sym (ap (λ b. b && by_datum (Some d)) u.no_dummy)

      by : (o : Option Key) → key_at files file token ≡ o → option_map_or at (option_map (entity_index files) o) false ≡ is_dummy_key files o
      by None none = refl
      by (Some key) some =
          let (number, at_number, entity) = entities.tokens file token key some in
          let there : IsAt files file token key number entity.entity = record { key_is = some; number_is = at_number; there = entity.there } in
          ap at (ap (λ o. unwrap_or o 0) at_number) ∙ ap (λ o. option_map_or (is_dummy_of p number) o false) (entity_there number entity.entity entity.there)
          ∙ ap₂ (λ b n. b && by_name n) (held.dummies file token key number entity.entity there) (name_number_there files p g known namings is number entity.entity entity.there)
          ∙ of_datum key (datum_of files key) refl number entity.entity there

  tree_same : (file : ℕ) (t : Tree) → option_map_or (is_dummy_at p file) (plain_name t) false ≡ spec.is_dummy_bound files file t
  tree_same file (refer name no_args no_section) = dummy_same file name
  tree_same file other = refl

  bound_same : (file : ℕ) (of_dummy : Bool) (bound : Expr)
      → bound_told p file (given_in p namings file) of_dummy bound ≡ cond of_dummy (spec.dummy_bound_told files file bound) (breaches_told file (given files file bound))
  bound_same file of_dummy bound =
      ap₂ (λ b (x : Evaluated). cond of_dummy (cond b [] (all_told file x)) (breaches_told file x)) (tree_same file (tree_of bound)) (given_here files p g known namings is file bound)

  loose_same : (file : ℕ) (pair : BoundPair) → is_loose (given_in p namings file) pair ≡ spec.is_loose files file pair
  loose_same file pair =
      ap (λ b. is_none pair.high || b)
      (any_alike (is_loose_bound (given_in p namings file)) (λ bound. has_strays (given files file bound)) (λ bound. ap has_strays (given_here files p g known namings is file bound)) (expressions_of pair))

  -- ---- a name

  module _ (n : ℕ) (d : Datum) (there : slice_get (all_data files) n ≡ Some d) where
    kind_there : kind_of p.bound.now p.links n ≡ own_kind files d
    kind_there =
        ap (λ (b : Bound). kind_of b p.links n) g.tables
        ∙ ap (λ o. option_map kind_in (option_and_then (slice_get (bound_entities files)) (option_and_then (λ (e : Option ℕ). e) o)))
        (ap (λ xs. slice_get xs n) g.entity_of ∙ slice_get-map (own_entity files) (all_data files) n ∙ ap (option_map (own_entity files)) there)

    abbrev said : List Saying
    said = said_of files d.scope d.name

    abbrev file : ℕ
    file = d.scope.file

    abbrev evaluate : Expr → Evaluated
    evaluate = given_in p namings file

    abbrev measured : Measured
    measured = measured_of files (known_of files) d

    datum_same : (of_dummy of_constant : Bool) → datum_told p file evaluate (written_of files d) measured of_dummy of_constant (names.begins said)
        ≡ (spec.bounds_told files of_dummy d ++ spec.bad_shape files d said (not of_dummy && spec.is_bad files of_constant d))
    datum_same of_dummy of_constant =
        ap₂ (λ (a b : List Finding). a ++ b)
        (flat_alike (bound_told p file evaluate of_dummy) (λ bound. cond of_dummy (spec.dummy_bound_told files file bound) (breaches_told file (given files file bound))) (bound_same file of_dummy)
        (flat_map expressions_of (written_bounds files d.scope d.name)))
        (ap (λ l. told_if (not of_dummy && ((l || list_any is_empty_pair (pairs_of files (known_of files) d)) || (not of_constant && is_none_long (type_of files d)))) (found BadShape (place file (names.begins said))))
        (any_alike (is_loose evaluate) (spec.is_loose files file) (loose_same file) (written_bounds files d.scope d.name)))

    kind_is : HasKind files d
    kind_is = kinds'.all n d there

    parts : (of_datum of_dummy of_constant : Bool)
        → ((cond of_datum (datum_told p file evaluate (written_of files d) measured of_dummy of_constant (names.begins said)) [] ++ star_told file (written_of files d) of_dummy of_constant (names.begins said))
        ++ valueless file (written_of files d) of_constant (names.begins said))
        ≡ ((cond of_datum (spec.bounds_told files of_dummy d ++ spec.bad_shape files d said (not of_dummy && spec.is_bad files of_constant d)) []
        ++ spec.bad_shape files d said (spec.has_star files d && not of_dummy && not of_constant))
        ++ told_if (of_constant && is_none (written_value files d.scope d.name)) (found NotConstant (place file (names.begins said))))
    parts of_datum of_dummy of_constant =
        ap₂ (λ (t : List Finding) (s : Bool). (cond of_datum t [] ++ told_if (s && not of_dummy && not of_constant) (found BadShape (place file (names.begins said)))) ++ valueless file (written_of files d) of_constant (names.begins said))
        (datum_same of_dummy of_constant) (has_star_is files d)

    pub named : name_told p known namings n ≡ faults.name_findings files d.scope d.name
    named =
        ap (λ o. option_map_or (λ o. option_map_or (told_with p namings n o) (slice_get known n) []) o []) (name_there files p g n d there)
        ∙ ap (λ o. option_map_or (told_with p namings n (owned_of files d)) o []) (known_there files p g known namings is n d there)
        ∙ ap₂ (λ (w : WrittenAs) (k : Option EntityKind). owned_told p file evaluate (owned_of files d) w measured k) (written_there files p g n d there) kind_there
        ∙ ap (λ t. (cond (is_said answer said || has_type_some (own_kind files d)) (datum_told p file evaluate (written_of files d) measured (is_dummy_some (own_kind files d)) (is_constant_some (own_kind files d)) t) []
        ++ star_told file (written_of files d) (is_dummy_some (own_kind files d)) (is_constant_some (own_kind files d)) t)
        ++ valueless file (written_of files d) (is_constant_some (own_kind files d)) t) (begins_is files d)
        ∙ parts (is_said answer said || has_type_some (own_kind files d)) (is_dummy_some (own_kind files d)) (is_constant_some (own_kind files d))
        ∙ ap (λ b. (cond b (spec.bounds_told files (is_dummy_some (own_kind files d)) d ++ spec.bad_shape files d said (not (is_dummy_some (own_kind files d)) && spec.is_bad files (is_constant_some (own_kind files d)) d)) []
        ++ spec.bad_shape files d said (spec.has_star files d && not (is_dummy_some (own_kind files d)) && not (is_constant_some (own_kind files d))))
        ++ told_if (is_constant_some (own_kind files d) && is_none (written_value files d.scope d.name)) (found NotConstant (place file (names.begins said)))) kind_is.typed
        ∙ ap₂ (λ of_dummy of_constant. (cond (spec.is_datum files d said) (spec.bounds_told files of_dummy d ++ spec.bad_shape files d said (not of_dummy && spec.is_bad files of_constant d)) []
        ++ spec.bad_shape files d said (spec.has_star files d && not of_dummy && not of_constant))
        ++ told_if (of_constant && is_none (written_value files d.scope d.name)) (found NotConstant (place file (names.begins said)))) kind_is.dummy_is kind_is.constant_is
