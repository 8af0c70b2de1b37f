-- What entities are in constant expressions, by what is known of them as values. It serves the proof alone.
use Rattle.std.specs.Prelude.{ℕ, ℤ, if◌then◌else◌, List, length, map, Option, Some, None}
use Rattle.std.specs.List.{list_any, range_with_len}
use Rattle.std.specs.Option.{option_map_or, option_and_then}
use Rattle.ftn_base.specs.declared.entity.Shape.{Shape}
use Rattle.ftn_tree.specs.declared.table.Entity.{Entity}
use Rattle.ftn_tree.specs.declared.table.EntityKind.{EntityKind}
use Rattle.ftn_tree.specs.declared.table.EntityKind.TheVariants as kinds
use Rattle.ftn_tree.specs.declared.value.Values.{Values}
use Rattle.ftn_tree.specs.Constants.{is_empty_pair}
use Rattle.ftn_tree.specs.Intrinsics.{function_named}
use Rattle.const_expr.specs.declared.naming.Naming.{Naming}
use Rattle.const_expr.specs.declared.naming.Naming.TheVariants as kept
use Rattle.const_value.specs.declared.project.Project.{Project}
use Rattle.const_value.specs.steps.Knowing.{function_naming}
use Rattle.const_value.specs.steps.Projects.{entity_in, name_of, rank_of}
use Rattle.type_check.specs.steps.DataBy.{of_entity}

-- bounds without an element aren't known
abbrev pub if_filled : List (ℤ × ℤ) → Option (List (ℤ × ℤ))
if_filled bounds = if list_any (λ pair. is_empty_pair (Some pair)) bounds then None else Some bounds

abbrev pub bounds_in : Shape → Option (List (ℤ × ℤ))
bounds_in s = if_filled s.bounds

abbrev pub rank_by : Project → ℕ → ℕ
rank_by p number = option_map_or (rank_of p.written.items) (name_of p.links number) 0

abbrev pub constant_by : Project → Values → ℕ → Naming
constant_by p v number = kept.Constant (of_entity v.constants (Some number)) (rank_by p number) (option_and_then bounds_in (of_entity v.shapes (Some number)))

abbrev pub naming_by_kind : Project → Values → ℕ → EntityKind → Entity → Naming
naming_by_kind p v number kinds.Intrinsic entity = function_naming (option_and_then function_named entity.name)
naming_by_kind p v number kinds.Constant entity = constant_by p v number
naming_by_kind p v number kind entity = kept.Stray

abbrev pub naming_in : Project → Values → ℕ → Entity → Naming
naming_in p v number entity = naming_by_kind p v number entity.kind entity

abbrev pub naming_at : Project → Values → ℕ → Naming
naming_at p v number = option_map_or (naming_in p v number) (entity_in p.bound.now number) kept.Stray

abbrev pub namings_by : Project → Values → List Naming
namings_by p v = map (naming_at p v) (range_with_len 0 (length p.bound.now.tables.entities))
