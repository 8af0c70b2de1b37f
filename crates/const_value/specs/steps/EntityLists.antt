-- What is known of all entities of a project, one after the other. It serves the proof alone.
use Rattle.std.specs.Prelude.{ℕ, ◌+◌, List, [], ◌∷◌, slice_get, Option}
use Rattle.std.specs.Borrow.{Bor}
use Rattle.std.specs.Option.{option_copied, option_and_then}
use Rattle.ftn_base.specs.declared.entity.Shape.{Shape}
use Rattle.ftn_tree.specs.declared.table.Entity.{Entity}
use Rattle.ftn_tree.specs.declared.value.Kind.{Kind}
use Rattle.ftn_tree.specs.declared.value.Value.{Value}
use Rattle.const_value.specs.declared.measured.Measured.{Measured}
use Rattle.const_value.specs.declared.project.Project.{Project}
use Rattle.const_value.specs.steps.EntityShapes as steps
use Rattle.const_value.specs.steps.EntityShapes.{constant_of, held_name, shape_of}

abbrev pub lent : Option (Bor Measured) → Option Measured
lent found = option_copied found

-- what is known of the name of what an entity holds
abbrev pub held : Project → List Measured → ℕ → Entity → Option Measured
held p known number entity = option_and_then (slice_get known) (held_name p number entity)

abbrev pub shape_at : Project → List Measured → ℕ → Entity → Option Shape
shape_at p known number entity = option_and_then shape_of (held p known number entity)

abbrev pub shapes_from : Project → List Measured → ℕ → List Entity → List (Option Shape)
shapes_from p known number [] = []
shapes_from p known number (entity ∷ entities) = shape_at p known number entity ∷ shapes_from p known (number + 1) entities

abbrev pub constant_at : Project → List Measured → ℕ → Entity → Option Value
constant_at p known number entity = option_and_then (constant_of entity.kind) (held p known number entity)

abbrev pub constants_from : Project → List Measured → ℕ → List Entity → List (Option Value)
constants_from p known number [] = []
constants_from p known number (entity ∷ entities) = constant_at p known number entity ∷ constants_from p known (number + 1) entities

-- by the number of a name
abbrev pub kind_by : Project → List Measured → ℕ → Option Kind
kind_by p known name = option_and_then (λ (m : Measured). steps.kind_by p m name) (slice_get known name)

abbrev pub kind_at : Project → List Measured → ℕ → Entity → Option Kind
kind_at p known number entity = option_and_then (kind_by p known) (held_name p number entity)

abbrev pub kinds_from : Project → List Measured → ℕ → List Entity → List (Option Kind)
kinds_from p known number [] = []
kinds_from p known number (entity ∷ entities) = kind_at p known number entity ∷ kinds_from p known (number + 1) entities
