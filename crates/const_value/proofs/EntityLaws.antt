-- The shapes, constants and kinds that are found of entities are those that are defined.
use Rattle.std.proofs.Common.{◌≡◌, ℕ, ℤ, suc, ◌+◌, Bool, true, false, cond, List, [], ◌∷◌, map, Option, Some, None, slice_get, option_map, inl, inr, refl, sym, ap, ap₂, ◌∙◌, arith}
use Rattle.std.specs.List.{AllByRecursion as Each}
use Rattle.std.specs.Option.{option_and_then, option_map_or}
use Rattle.std.proofs.lemmas.Option.{slice_get-map}
use Rattle.ftn_base.specs.declared.entity.Shape.{Shape}
use Rattle.ftn_base.specs.declared.entity.Ty.{Ty}
use Rattle.ftn_tree.specs.declared.table.Bound.{Bound}
use Rattle.ftn_tree.specs.declared.table.Entity.{Entity}
use Rattle.ftn_tree.specs.declared.table.EntityKind.{EntityKind}
use Rattle.ftn_tree.specs.declared.table.EntityKind.TheVariants as kinds
use Rattle.ftn_tree.specs.declared.table.Scope.{Scope}
use Rattle.ftn_tree.specs.declared.unit.FileTree.{FileTree}
use Rattle.ftn_tree.specs.declared.value.Kind.{Kind}
use Rattle.ftn_tree.specs.declared.value.Value.{Value}
use Rattle.ftn_tree.specs.Bindings.{bound_entities}
use Rattle.ftn_tree.specs.Constants.{all_pairs, known_of, pairs_of}
use Rattle.ftn_tree.specs.DeclarationFaults.{declaration_fault}
use Rattle.ftn_tree.specs.DeclaredEntities.{has_result_at}
use Rattle.ftn_tree.specs.EntityValues as spec
use Rattle.ftn_tree.specs.EntityValues.{constant_by, constant_of_entity, holder, is_named_constant, kind_from, type_by}
use Rattle.ftn_tree.specs.Extents.{layer_at}
use Rattle.ftn_tree.specs.KeyKinds.{Datum, is_constant, kind_of, rank_of, sort_of}
use Rattle.ftn_tree.specs.Meanings.{own}
use Rattle.ftn_tree.specs.NameFaults.{name_fault}
use Rattle.ftn_tree.specs.Projects.{AreTrees}
use Rattle.ftn_tree.specs.Shapes as shapes
use Rattle.ftn_tree.specs.Shapes.{bounds_of, full_type, shape, shape_findings, type_of, with_value}
use Rattle.ftn_tree.specs.Sorts.{Sort}
use Rattle.const_value.specs.declared.measured.Measured.{Measured}
use Rattle.const_value.specs.declared.project.Project.{Project}
use Rattle.const_value.specs.steps.EntityLists.{constant_at, constants_from, held, kind_at, kind_by, kinds_from, shape_at, shapes_from}
use Rattle.const_value.specs.steps.EntityShapes as steps
use Rattle.const_value.specs.steps.Gathered.{IsGathered, name_number}
use Rattle.const_value.specs.steps.Known.{measured_of, value_of}
use Rattle.const_value.specs.steps.Names.{all_data}
use Rattle.const_value.specs.steps.Projects.{name_of}
use Rattle.const_value.proofs.EntityHolders.{HeldCase, Holding, entities_held, holds_with}
use Rattle.const_value.proofs.EntityHolders as holders
use Rattle.const_value.proofs.GatheredNames.{rank_there, sort_there}

holds_is : (p : Project) (k : EntityKind) (opens : Option ℕ) → steps.holds_as p k opens ≡ holds_with (steps.has_result p opens) k
holds_is p kinds.Function opens = refl
holds_is p other opens = refl

with_result : List FileTree → Bound → Option ℕ → Bool
with_result files bound opens = option_map_or (λ (s : Scope). has_result_at (layer_at files s.unit.file s.unit.statement)) (option_and_then (slice_get bound.tables.scopes) opens) false

module _ (files : List FileTree) (p : Project) (g : IsGathered files p) (are : AreTrees files) (declared : declaration_fault files ≡ None) (bound : name_fault files ≡ None)
    (shaped : (n : ℕ) (d : Datum) → slice_get (all_data files) n ≡ Some d → shape_findings files d ≡ []) (known : List Measured) (measured : known ≡ map (measured_of files (known_of files)) (all_data files)) where
  result_is : (opens : Option ℕ) → steps.has_result p opens ≡ holders.has_result files are declared bound shaped opens
  unfolding with_result
  result_is opens = ap₂ (λ fs b. with_result fs b opens) g.trees g.tables

  held_is : (entity : Entity) → steps.holds p entity ≡ holds_with (holders.has_result files are declared bound shaped entity.opens) entity.kind
  held_is entity = holds_is p entity.kind entity.opens ∙ ap (λ r. holds_with r entity.kind) (result_is entity.opens)

  -- the name that is kept of an entity
  kept_is : (number : ℕ) (entity : Entity) → slice_get (bound_entities files) number ≡ Some entity → name_of p.links number ≡ name_number files entity
  kept_is number entity there =
      ap (option_and_then (λ (n : Option ℕ). n)) (ap (λ xs. slice_get xs number) g.name_of ∙ slice_get-map (name_number files) (bound_entities files) number ∙ ap (option_map (name_number files)) there)

  known_is : (n : ℕ) (d : Datum) → slice_get (all_data files) n ≡ Some d → slice_get known n ≡ Some (measured_of files (known_of files) d)
  known_is n d there =
      ap (λ xs. slice_get xs n) measured ∙ slice_get-map (measured_of files (known_of files)) (all_data files) n ∙ ap (option_map (measured_of files (known_of files))) there

  module _ (number : ℕ) (entity : Entity) (there : slice_get (bound_entities files) number ≡ Some entity) where
    none_held : holds_with (holders.has_result files are declared bound shaped entity.opens) entity.kind ≡ false → steps.held_name p number entity ≡ None
    none_held none = ap (λ b. cond b (name_of p.links number) None) (held_is entity ∙ none)

    name_held : (h : Holding files are declared bound shaped entity) → steps.held_name p number entity ≡ Some h.name
    name_held h = ap (λ b. cond b (name_of p.links number) None) (held_is entity ∙ h.held) ∙ kept_is number entity there ∙ h.name_is

    known_held : (h : Holding files are declared bound shaped entity) → held p known number entity ≡ Some (measured_of files (known_of files) h.datum)
    known_held h = ap (option_and_then (slice_get known)) (name_held h) ∙ known_is h.name h.datum h.there

    full_is : (h : Holding files are declared bound shaped entity) → steps.full_type (measured_of files (known_of files) h.datum) ≡ full_type files h.key
    full_is h = h.full ∙ ap (λ o. option_map (with_value (known_of files h.key).value) (option_and_then (type_of files) o)) (sym h.datum_is)

    shape_is : HeldCase files are declared bound shaped entity → shape_at p known number entity ≡ option_and_then (shapes.shape_of files) (holder files entity)
    shape_is (inl none) =
        ap (λ o. option_and_then steps.shape_of (option_and_then (slice_get known) o)) (none_held none.1) ∙ sym (ap (option_and_then (shapes.shape_of files)) none.0)
    shape_is (inr h) =
        ap (option_and_then steps.shape_of) (known_held h)
        ∙ ap₂ (λ (t : Option Ty) (b : Option (List (ℤ × ℤ))). option_and_then (λ known. option_map (shape known) b) t) (full_is h)
        (sym (ap (option_and_then (λ d. all_pairs (pairs_of files (known_of files) d))) h.datum_is))
        ∙ sym (ap (option_and_then (shapes.shape_of files)) h.holder_is)

    constant_is : HeldCase files are declared bound shaped entity → constant_at p known number entity ≡ constant_of_entity files entity
    constant_is (inl none) =
        ap (λ o. option_and_then (steps.constant_of entity.kind) (option_and_then (slice_get known) o)) (none_held none.1)
        ∙ sym (ap (λ o. cond (is_named_constant entity.kind) (option_and_then (constant_by files) o) None) none.0 ∙ same (is_named_constant entity.kind))
      where
        same : (b : Bool) → cond {A = Option Value} b None None ≡ None
        same true = refl
        same false = refl
    constant_is (inr h) =
        ap (option_and_then (steps.constant_of entity.kind)) (known_held h) ∙ by (is_named_constant entity.kind) refl
        ∙ sym (ap (λ o. cond (is_named_constant entity.kind) (option_and_then (constant_by files) o) None) h.holder_is)
      where
        by : (b : Bool) → is_named_constant entity.kind ≡ b → cond b (value_of files (known_of files) h.datum) None ≡ cond b ((known_of files h.key).value) None
        by false is = refl
        by true is =
            let (key_is, constant) = h.constant is in
            ap (λ b. cond b ((known_of files (own h.datum.scope h.datum.name)).value) None) (ap (λ key. is_constant (kind_of files key)) (sym key_is) ∙ constant)
            ∙ ap (λ key. (known_of files key).value) (sym key_is)

    kind_is : HeldCase files are declared bound shaped entity → kind_at p known number entity ≡ option_and_then (spec.kind_by files) (holder files entity)
    kind_is (inl none) = ap (option_and_then (kind_by p known)) (none_held none.1) ∙ sym (ap (option_and_then (spec.kind_by files)) none.0)
    kind_is (inr h) =
        ap (option_and_then (kind_by p known)) (name_held h)
        ∙ ap (option_and_then (λ (m : Measured). steps.kind_by p m h.name)) (known_is h.name h.datum h.there)
        ∙ ap₂ (λ (r : ℕ) (s : Option Sort). option_map (kind_from r) (type_by (steps.full_type (measured_of files (known_of files) h.datum)) s)) (rank_there files p g h.name h.datum h.there) (sort_there files p g h.name h.datum h.there are)
        ∙ ap (λ (t : Option Ty). option_map (kind_from (rank_of files h.datum)) (type_by t (sort_of files h.datum))) (full_is h)
        ∙ sym (ap (option_and_then (spec.kind_with files h.key)) h.datum_is)
        ∙ sym (ap (option_and_then (spec.kind_by files)) h.holder_is)

  -- ---- the lists

  next : (at : ℕ) (entity : Entity) (es : List Entity) → ((k : ℕ) (x : Entity) → slice_get (entity ∷ es) k ≡ Some x → slice_get (bound_entities files) (at + k) ≡ Some x)
      → (k : ℕ) (x : Entity) → slice_get es k ≡ Some x → slice_get (bound_entities files) (at + 1 + k) ≡ Some x
  next at entity es stand k x is = ap (slice_get (bound_entities files)) (plus at k) ∙ stand (suc k) x is where
    plus : (at k : ℕ) → at + 1 + k ≡ at + suc k
    plus at k = omega arith

  here : (at : ℕ) (entity : Entity) (es : List Entity) → ((k : ℕ) (x : Entity) → slice_get (entity ∷ es) k ≡ Some x → slice_get (bound_entities files) (at + k) ≡ Some x) → slice_get (bound_entities files) at ≡ Some entity
  here at entity es stand = ap (slice_get (bound_entities files)) (plus at) ∙ stand 0 entity refl where
    plus : (at : ℕ) → at ≡ at + 0
    plus at = omega arith

  shapes_are : (at : ℕ) (es : List Entity) → ((k : ℕ) (x : Entity) → slice_get es k ≡ Some x → slice_get (bound_entities files) (at + k) ≡ Some x) → Each (HeldCase files are declared bound shaped) es
      → shapes_from p known at es ≡ map (λ entity. option_and_then (shapes.shape_of files) (holder files entity)) es
  shapes_are at [] stand all = refl
  shapes_are at (entity ∷ es) stand all =
      ap₂ (λ (x : Option Shape) xs. x ∷ xs) (shape_is at entity (here at entity es stand) all.0) (shapes_are (at + 1) es (next at entity es stand) all.1)

  constants_are : (at : ℕ) (es : List Entity) → ((k : ℕ) (x : Entity) → slice_get es k ≡ Some x → slice_get (bound_entities files) (at + k) ≡ Some x) → Each (HeldCase files are declared bound shaped) es
      → constants_from p known at es ≡ map (constant_of_entity files) es
  constants_are at [] stand all = refl
  constants_are at (entity ∷ es) stand all =
      ap₂ (λ (x : Option Value) xs. x ∷ xs) (constant_is at entity (here at entity es stand) all.0) (constants_are (at + 1) es (next at entity es stand) all.1)

  kinds_are : (at : ℕ) (es : List Entity) → ((k : ℕ) (x : Entity) → slice_get es k ≡ Some x → slice_get (bound_entities files) (at + k) ≡ Some x) → Each (HeldCase files are declared bound shaped) es
      → kinds_from p known at es ≡ map (λ entity. option_and_then (spec.kind_by files) (holder files entity)) es
  kinds_are at [] stand all = refl
  kinds_are at (entity ∷ es) stand all =
      ap₂ (λ (x : Option Kind) xs. x ∷ xs) (kind_is at entity (here at entity es stand) all.0) (kinds_are (at + 1) es (next at entity es stand) all.1)

  entities_are : p.bound.now.tables.entities ≡ bound_entities files
  entities_are = ap (λ (b : Bound). b.tables.entities) g.tables

  whole : (k : ℕ) (x : Entity) → slice_get (bound_entities files) k ≡ Some x → slice_get (bound_entities files) (0 + k) ≡ Some x
  whole k x is = ap (slice_get (bound_entities files)) (zero_plus k) ∙ is where
    zero_plus : (k : ℕ) → 0 + k ≡ k
    zero_plus k = omega arith

  pub all_shapes : shapes_from p known 0 p.bound.now.tables.entities ≡ (spec.values_of files).shapes
  all_shapes = ap (shapes_from p known 0) entities_are ∙ shapes_are 0 (bound_entities files) whole (entities_held files are declared bound shaped)

  pub all_constants : constants_from p known 0 p.bound.now.tables.entities ≡ (spec.values_of files).constants
  all_constants = ap (constants_from p known 0) entities_are ∙ constants_are 0 (bound_entities files) whole (entities_held files are declared bound shaped)

  pub all_kinds : kinds_from p known 0 p.bound.now.tables.entities ≡ (spec.values_of files).kinds
  all_kinds = ap (kinds_from p known 0) entities_are ∙ kinds_are 0 (bound_entities files) whole (entities_held files are declared bound shaped)
