-- What takes storage units (Fortran 90, 2.4.3.1, 14.6.3.1): variables and results, each with its units and their sort. Dummy arguments and named
-- constants take none, and neither does what an interface body declares.
use Rattle.std.specs.Prelude.{ℕ, ◌-◌, ◌*◌, ◌^◌, min, Bool, true, false, not, ◌&&◌, if◌then◌else◌, List, map, Option, None}
use Rattle.std.specs.List.{filter_map, position}
use Rattle.std.specs.Option.{option_map_or, option_and_then, unwrap_or}
use Rattle.ftn_base.specs.declared.entity.EntityId.{EntityId}
use Rattle.ftn_base.specs.declared.entity.Shape.{Shape}
use Rattle.ftn_base.specs.declared.entity.Sort.{Sort}
use Rattle.ftn_base.specs.declared.entity.Sort.TheVariants.{Numeric, Character}
use Rattle.ftn_base.specs.declared.entity.Ty.{Ty}
use Rattle.ftn_base.specs.declared.entity.Ty.TheVariants as ty
use Rattle.ftn_base.specs.declared.storage.Object.{Object}
use Rattle.ftn_tree.specs.declared.table.Entity.{Entity}
use Rattle.ftn_tree.specs.declared.table.EntityKind.{EntityKind}
use Rattle.ftn_tree.specs.declared.table.EntityKind.TheVariants as kinds
use Rattle.ftn_tree.specs.declared.unit.FileTree.{FileTree}
use Rattle.ftn_tree.specs.Extents.{is_body}
use Rattle.ftn_tree.specs.Scopes.{scope_number}
use Rattle.ftn_tree.specs.Meanings.{Key, same_key}
use Rattle.ftn_tree.specs.Bindings.{bound_entities, entity_number}
use Rattle.ftn_tree.specs.KeyKinds.{Datum, datum_of}
use Rattle.ftn_tree.specs.DataTypes.{elements_of}
use Rattle.ftn_tree.specs.Givens.{units_of}
use Rattle.ftn_tree.specs.Shapes.{shape_of}
use Rattle.ftn_tree.specs.EntityValues.{extent_numbered, holder}

-- ---- which entities

-- a function without RESULT is its result too
abbrev pub takes_storage : EntityKind → Bool
takes_storage kinds.Variable = true
takes_storage kinds.Answer = true
takes_storage kinds.Function = true
takes_storage _ = false

abbrev pub stands_in_body : List FileTree → Entity → Bool
stands_in_body files entity = option_map_or (is_body files) (extent_numbered files entity.home) false

abbrev pub object_key : List FileTree → Entity → Option Key
object_key files entity = if takes_storage entity.kind && not (stands_in_body files entity) then holder files entity else None

-- all of a project, in the order of entities
abbrev pub object_keys : List FileTree → List Key
object_keys files = filter_map (object_key files) (bound_entities files)

abbrev pub object_entities : List FileTree → List EntityId
object_entities files = map (entity_number files) (object_keys files)

abbrev pub object_number : List FileTree → Key → Option ℕ
object_number files key = position (same_key key) (object_keys files)

-- ---- their units

abbrev pub sort_of_units : Ty → Sort
sort_of_units (ty.Character length) = Character
sort_of_units _ = Numeric

-- a scalar takes one numeric unit, or one for each character; an array those of its elements
abbrev pub units_in : Shape → ℕ
units_in shape = elements_of shape * units_of shape.ty

-- the greatest number that is told apart stands for every greater one
abbrev pub told_units : ℕ → ℕ
told_units n = min n (2 ^ 32 - 1)

abbrev pub sort_in : Option Shape → Sort
sort_in shape = option_map_or (λ (s : Shape). sort_of_units s.ty) shape Numeric

-- the scoping unit whose own it is
abbrev pub home_number : List FileTree → Key → ℕ
home_number files key = unwrap_or (option_and_then (λ (d : Datum). scope_number files d.scope) (datum_of files key)) 0

abbrev pub object_of : List FileTree → Key → Object
object_of files key = record {
  units = told_units (option_map_or units_in (shape_of files key) 0);
  sort = sort_in (shape_of files key);
  scope = home_number files key;
}

abbrev pub objects_of : List FileTree → List Object
objects_of files = map (object_of files) (object_keys files)
