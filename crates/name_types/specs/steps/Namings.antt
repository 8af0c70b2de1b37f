-- What entities are as references see them, by what is kept of them. It serves the proof alone.
use Rattle.std.specs.Prelude.{◌≡◌, ℕ, Bool, true, false, not, List, length, slice_get, codes, Option, Some, None}
use Rattle.std.specs.List.{filter_map}
use Rattle.std.specs.Option.{option_map, option_map_or, option_and_then, option_or, unwrap_or}
use Rattle.ftn_tree.specs.declared.table.Entity.{Entity}
use Rattle.ftn_tree.specs.declared.table.EntityKind.{EntityKind}
use Rattle.ftn_tree.specs.declared.table.EntityKind.TheVariants as kinds
use Rattle.ftn_tree.specs.declared.table.Extent.{Extent}
use Rattle.ftn_tree.specs.declared.unit.FileTree.{FileTree}
use Rattle.ftn_tree.specs.DeclaredEntities.{has_result_at}
use Rattle.ftn_tree.specs.Extents.{layer_at, scoping}
use Rattle.ftn_tree.specs.Intrinsics.{function_named}
use Rattle.ftn_tree.specs.Procedures.{specific_keys}
use Rattle.ftn_tree.specs.Sorts.{Sort}
use Rattle.const_value.specs.steps.Projects.{sort_seen}
use Rattle.name_types.specs.declared.declared.Declared.{Declared}
use Rattle.name_types.specs.declared.names.Naming.{Naming}
use Rattle.name_types.specs.declared.names.What.{What}
use Rattle.name_types.specs.declared.names.What.TheVariants as what
use Rattle.name_types.specs.steps.Declaring as declaring
use Rattle.name_types.specs.steps.Gathered.{Due, Function, Subroutine, Generic, Other, extent_numbered, unit_in, what_seen}

-- where it is declared: in the scoping unit that it opens, else in its own
abbrev pub scope_of : Entity → Option ℕ
scope_of entity = option_or entity.opens entity.home

abbrev pub name_of : Entity → List ℕ
name_of entity = unwrap_or entity.name (codes "%blockdata")

abbrev pub sort_of : Declared → Entity → Option Sort
sort_of d entity = option_and_then (λ scope. declaring.sort_by d scope (name_of entity)) (scope_of entity)

abbrev pub rank_of : Declared → Entity → ℕ
rank_of d entity = option_map_or (λ scope. declaring.rank_by d scope (name_of entity)) (scope_of entity) 0

-- ---- what it is

abbrev pub has_answer : List FileTree → ℕ → Bool
has_answer files scope = option_map_or (λ (e : Extent). has_result_at (layer_at files e.file e.opening)) (slice_get (scoping files) scope) false

abbrev pub unit_what : List FileTree → EntityKind → ℕ → Due
unit_what files kinds.Function scope = Function (extent_numbered files scope) (has_answer files scope)
unit_what files kinds.Subroutine scope = Subroutine (extent_numbered files scope)
unit_what files other scope = Other

abbrev pub may_be_defined : Declared → EntityKind → ℕ → List ℕ → Bool
may_be_defined d kinds.Constant scope name = false
may_be_defined d kinds.Dummy scope name = not (declaring.is_given_by d scope name)
may_be_defined d other scope name = true

abbrev pub IsOwn : List FileTree → Declared → EntityKind → ℕ → List ℕ → What → Type 0
IsOwn files d kinds.Generic scope name made =
    (e : Extent) → slice_get (scoping files) scope ≡ Some e → what_seen files made ≡ Generic (filter_map unit_in (specific_keys files e name))
IsOwn files d kinds.Construct scope name made = made ≡ what.Other
IsOwn files d kind scope name made = made ≡ what.Data (may_be_defined d kind scope name)

abbrev pub loose_by : EntityKind → List ℕ → What
loose_by kinds.Intrinsic name = what.Intrinsic (function_named name)
loose_by other name = what.Other

abbrev pub loose_what : Entity → What
loose_what entity = loose_by entity.kind (name_of entity)

abbrev pub IsWhat : List FileTree → Declared → EntityKind → List ℕ → Entity → Option ℕ → Option ℕ → What → Type 0
IsWhat files d kind name entity (Some scope) home made = what_seen files made ≡ unit_what files kind scope
IsWhat files d kind name entity None (Some scope) made = IsOwn files d kind scope name made
IsWhat files d kind name entity None None made = made ≡ loose_what entity

pub record IsKept (files : List FileTree) (d : Declared) (entity : Entity) (naming : Naming) : Type 0 where
  pub sort : option_map sort_seen naming.sort ≡ sort_of d entity
  pub rank : naming.rank ≡ rank_of d entity
  pub what : IsWhat files d entity.kind (name_of entity) entity entity.opens entity.home naming.what

-- each of them
pub record AreKept (files : List FileTree) (d : Declared) (entities : List Entity) (namings : List Naming) : Type 0 where
  pub long : length namings ≡ length entities
  pub each : (n : ℕ) (entity : Entity) (naming : Naming) → slice_get entities n ≡ Some entity → slice_get namings n ≡ Some naming → IsKept files d entity naming
