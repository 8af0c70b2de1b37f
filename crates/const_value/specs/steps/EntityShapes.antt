-- What is known of an entity as a value, by what is known of its name. It serves the proof alone.
use Rattle.std.specs.Prelude.{ℕ, Bool, true, false, if◌then◌else◌, slice_get, Option, None}
use Rattle.std.specs.Option.{option_map, option_map_or, option_and_then}
use Rattle.ftn_base.specs.declared.entity.Shape.{Shape}
use Rattle.ftn_base.specs.declared.entity.Ty.{Ty}
use Rattle.ftn_tree.specs.declared.table.Entity.{Entity}
use Rattle.ftn_tree.specs.declared.table.EntityKind.{EntityKind}
use Rattle.ftn_tree.specs.declared.table.EntityKind.TheVariants as kinds
use Rattle.ftn_tree.specs.declared.table.Scope.{Scope}
use Rattle.ftn_tree.specs.declared.value.Kind.{Kind}
use Rattle.ftn_tree.specs.declared.value.Value.{Value}
use Rattle.ftn_tree.specs.DeclaredEntities.{has_result_at}
use Rattle.ftn_tree.specs.EntityValues as spec
use Rattle.ftn_tree.specs.EntityValues.{is_named_constant, kind_from, type_by}
use Rattle.ftn_tree.specs.Extents.{layer_at}
use Rattle.ftn_tree.specs.Shapes.{shape, with_value}
use Rattle.const_value.specs.declared.measured.Measured.{Measured}
use Rattle.const_value.specs.declared.project.Project.{Project}
use Rattle.const_value.specs.steps.Projects.{name_of, rank_of, sort_of}

abbrev pub full_type : Measured → Option Ty
full_type m = option_map (with_value m.value) m.ty

abbrev pub shape_of : Measured → Option Shape
shape_of m = option_and_then (λ known. option_map (shape known) m.bounds) (full_type m)

abbrev pub kind_by : Project → Measured → ℕ → Option Kind
kind_by p m name = option_map (kind_from (rank_of p.written.items name)) (type_by (full_type m) (sort_of p.bound.now p.names.items p.written.items name))

abbrev pub constant_of : EntityKind → Measured → Option Value
constant_of kind m = if is_named_constant kind then m.value else None

-- RESULT stands in the opening of the scoping unit
abbrev pub has_result_in : Project → Scope → Bool
has_result_in p s = has_result_at (layer_at p.files.now s.unit.file s.unit.statement)

abbrev pub has_result : Project → Option ℕ → Bool
has_result p opens = option_map_or (has_result_in p) (option_and_then (slice_get p.bound.now.tables.scopes) opens) false

abbrev pub holds_as : Project → EntityKind → Option ℕ → Bool
holds_as p kinds.Function opens = if has_result p opens then false else true
holds_as p kind opens = spec.holds kind

abbrev pub holds : Project → Entity → Bool
holds p entity = holds_as p entity.kind entity.opens

abbrev pub held_name : Project → ℕ → Entity → Option ℕ
held_name p number entity = if holds p entity then name_of p.links number else None
