-- What is known of the entities of a project as values (Fortran 90, 2.4, 5.1, 5.2.10).
use Rattle.std.specs.Prelude.{ℕ, ◌-◌, ◌^◌, min, Bool, true, false, if◌then◌else◌, List, [], map, slice_get, Option, Some, None}
use Rattle.std.specs.Option.{option_map, option_and_then, unwrap_or}
use Rattle.ftn_base.specs.declared.entity.Length.TheVariants.{Assumed}
use Rattle.ftn_base.specs.declared.entity.Ty.{Ty}
use Rattle.ftn_base.specs.declared.entity.Ty.TheVariants as ty
use Rattle.ftn_tree.specs.declared.table.Entity.{Entity}
use Rattle.ftn_tree.specs.declared.table.EntityKind.{EntityKind}
use Rattle.ftn_tree.specs.declared.table.EntityKind.TheVariants as kinds
use Rattle.ftn_tree.specs.declared.table.Extent.{Extent}
use Rattle.ftn_tree.specs.declared.unit.FileTree.{FileTree}
use Rattle.ftn_tree.specs.declared.value.Given.{Given}
use Rattle.ftn_tree.specs.declared.value.Kind.{Kind}
use Rattle.ftn_tree.specs.declared.value.Value.{Value}
use Rattle.ftn_tree.specs.declared.value.Values.{Values}
use Rattle.ftn_tree.specs.Extents.{scoping, layer_at}
use Rattle.ftn_tree.specs.DeclaredEntities.{has_result_at}
use Rattle.ftn_tree.specs.Meanings.{Key, unit, own}
use Rattle.ftn_tree.specs.Bindings.{bound_entities, entity_number}
use Rattle.ftn_tree.specs.Sorts.{Sort, Whole, Truth, Text}
use Rattle.ftn_tree.specs.KeyKinds.{Datum, datum_of, sort_of, rank_of}
use Rattle.ftn_tree.specs.Constants.{known_of}
use Rattle.ftn_tree.specs.Shapes.{shape_of, full_type}
use Rattle.ftn_tree.specs.Scopes.{span_of}
use Rattle.ftn_tree.specs.Givens.{givens_of}
use Rattle.ftn_tree.specs.Givens as givens

-- ---- the key of an entity that holds values: a variable, a constant, a dummy argument, a result

abbrev pub holds : EntityKind → Bool
holds kinds.Variable = true
holds kinds.Constant = true
holds kinds.Dummy = true
holds kinds.Answer = true
holds _ = false

abbrev pub extent_numbered : List FileTree → Option ℕ → Option Extent
extent_numbered files number = option_and_then (slice_get (scoping files)) number

-- a function without RESULT holds its result
abbrev pub key_of_function : List FileTree → Extent → Option Key
key_of_function files e = if has_result_at (layer_at files e.file e.opening) then None else Some (unit e)

abbrev pub key_of_entity : List FileTree → EntityKind → Entity → Option Key
key_of_entity files kinds.Function entity = option_and_then (key_of_function files) (extent_numbered files entity.opens)
key_of_entity files kind entity = if holds kind then option_map (λ e. own e (unwrap_or entity.name [])) (extent_numbered files entity.home) else None

abbrev pub holder : List FileTree → Entity → Option Key
holder files entity = key_of_entity files entity.kind entity

-- ---- values

-- a length that isn't constant is that of the actual argument or of the value
abbrev pub type_by : Option Ty → Option Sort → Option Ty
type_by (Some known) sort = Some known
type_by None (Some Whole) = Some ty.Integer
type_by None (Some Truth) = Some ty.Logical
type_by None (Some Text) = Some (ty.Character Assumed)
type_by None None = None

abbrev pub kind_from : ℕ → Ty → Kind
kind_from rank known = record { ty = known; rank = rank }

abbrev pub kind_with : List FileTree → Key → Datum → Option Kind
kind_with files key d = option_map (kind_from (rank_of files d)) (type_by (full_type files key) (sort_of files d))

abbrev pub kind_by : List FileTree → Key → Option Kind
kind_by files key = option_and_then (kind_with files key) (datum_of files key)

abbrev pub constant_by : List FileTree → Key → Option Value
constant_by files key = (known_of files key).value

abbrev pub is_named_constant : EntityKind → Bool
is_named_constant kinds.Constant = true
is_named_constant _ = false

abbrev pub constant_of_entity : List FileTree → Entity → Option Value
constant_of_entity files entity = if is_named_constant entity.kind then option_and_then (constant_by files) (holder files entity) else None

-- 2 ^ 32 - 1 stands for every greater number too: more units than that are told later (this project's own)
abbrev pub capped : ℕ → ℕ
capped n = min n (2 ^ 32 - 1)

abbrev pub numbered_given : List FileTree → givens.Given → Given
numbered_given files g = record {
  entity = entity_number files g.key;
  first = capped g.first;
  count = capped g.count;
  value = g.value;
  span = span_of files g.at.file g.at.token;
}

abbrev pub values_of : List FileTree → Values
values_of files = record {
  shapes = map (λ entity. option_and_then (shape_of files) (holder files entity)) (bound_entities files);
  constants = map (constant_of_entity files) (bound_entities files);
  kinds = map (λ entity. option_and_then (kind_by files) (holder files entity)) (bound_entities files);
  given = map (numbered_given files) (givens_of files);
}
