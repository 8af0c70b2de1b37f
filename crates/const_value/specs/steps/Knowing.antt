-- What is known of the names of a project, one name after the other. It serves the proof alone.
use Rattle.std.specs.Prelude.{ℕ, ℤ, Bool, true, false, not, ◌&&◌, ◌||◌, if◌then◌else◌, List, length, map, slice_get, slice_set, Option, Some, None}
use Rattle.std.specs.List.{fold, list_any, range_with_len}
use Rattle.std.specs.Option.{is_none, option_map_or, option_and_then}
use Rattle.ftn_tree.specs.declared.intrinsic.Intrinsic.{Intrinsic}
use Rattle.ftn_tree.specs.declared.table.Entity.{Entity}
use Rattle.ftn_tree.specs.declared.table.EntityKind.{EntityKind}
use Rattle.ftn_tree.specs.declared.table.EntityKind.TheVariants as kinds
use Rattle.ftn_tree.specs.Constants.{all_pairs, is_empty_pair}
use Rattle.ftn_tree.specs.Intrinsics.{function_named}
use Rattle.const_expr.specs.declared.naming.Naming.{Naming}
use Rattle.const_expr.specs.declared.naming.Naming.TheVariants as kept
use Rattle.const_expr.specs.Namings.{evaluated_by}
use Rattle.const_value.specs.declared.circles.Circles.{Circles}
use Rattle.const_value.specs.declared.knowledge.Knowledge.{Knowledge}
use Rattle.const_value.specs.declared.measured.Measured.{Measured}
use Rattle.const_value.specs.declared.project.Project.{Project}
use Rattle.const_value.specs.steps.Measuring as steps
use Rattle.const_value.specs.steps.Projects.{entity_in, entity_of, name_of, rank_of, row_in, sort_of, written_at}
use Rattle.const_value.specs.steps.References.{file_of, is_circular, is_constant}
use Rattle.const_value.specs.steps.Written.{pairs}

-- what is known of names, and what entities are in constant expressions
pub record Knowing : Type 0 where
  pub known : List Measured
  pub namings : List Naming

abbrev pub seen : Knowledge → Knowing
seen k = record { known = k.known.items; namings = k.namings.items }

-- ---- before anything is known

abbrev pub unknown : Measured
unknown = record { ty = None; bounds = None; empty = false; value = None }

abbrev pub function_naming : Option Intrinsic → Naming
function_naming None = kept.Stray
function_naming (Some function) = kept.Function function

abbrev pub naming_by_kind : Project → ℕ → EntityKind → Entity → Naming
naming_by_kind p number kinds.Intrinsic entity = function_naming (option_and_then function_named entity.name)
naming_by_kind p number kinds.Constant entity = kept.Constant None (option_map_or (rank_of p.written.items) (name_of p.links number) 0) None
naming_by_kind p number kind entity = kept.Stray

abbrev pub naming_before : Project → ℕ → Entity → Naming
naming_before p number entity = naming_by_kind p number entity.kind entity

-- by the number of the entity
abbrev pub naming_at : Project → ℕ → Naming
naming_at p number = option_map_or (naming_before p number) (entity_in p.bound.now number) kept.Stray

abbrev pub nothing : Project → Knowing
nothing p = record {
  known = map (λ (name : ℕ). unknown) (range_with_len 0 (length p.names.items));
  namings = map (naming_at p) (range_with_len 0 (length p.bound.now.tables.entities));
}

-- ---- one name

abbrev pub measured_at : Project → List Naming → ℕ → Bool → Measured
measured_at p namings name valued = record {
  ty = steps.declared_type (evaluated_by (row_in p.rows.items (file_of p.names.items name)) namings) p.bound.now p.names.items p.written.items name;
  bounds = all_pairs (steps.pairs_of (evaluated_by (row_in p.rows.items (file_of p.names.items name)) namings) (pairs (written_at p.written.items name)));
  empty = list_any is_empty_pair (steps.pairs_of (evaluated_by (row_in p.rows.items (file_of p.names.items name)) namings) (pairs (written_at p.written.items name)));
  value = if valued then steps.value_of (evaluated_by (row_in p.rows.items (file_of p.names.items name)) namings) (sort_of p.bound.now p.names.items p.written.items name)
      (steps.declared_type (evaluated_by (row_in p.rows.items (file_of p.names.items name)) namings) p.bound.now p.names.items p.written.items name)
      (written_at p.written.items name).value else None;
}

abbrev pub measure : Project → Knowing → ℕ → Bool → Knowing
measure p all name valued = record { known = slice_set all.known name (measured_at p all.namings name valued); namings = all.namings }

-- the bounds, where the length is known too and there is an element
abbrev pub known_bounds : Measured → Option (List (ℤ × ℤ))
known_bounds m = if m.empty || is_none m.ty then None else m.bounds

abbrev pub naming_for : Project → ℕ → Measured → Naming
naming_for p name m = kept.Constant m.value (rank_of p.written.items name) (known_bounds m)

abbrev pub put_naming : Option ℕ → Naming → List Naming → List Naming
put_naming None naming namings = namings
put_naming (Some entity) naming namings = slice_set namings entity naming

abbrev pub publish : Project → Knowing → ℕ → Knowing
publish p all name = record {
  known = all.known;
  namings = option_map_or (λ (m : Measured). put_naming (entity_of p.links name) (naming_for p name m) all.namings) (slice_get all.known name) all.namings;
}

-- ---- all names

-- a constant that isn't defined by itself
abbrev pub is_valued : Project → Circles → ℕ → Bool
is_valued p c name = is_constant p name && not (is_circular c name)

abbrev pub measure_constant : Project → Circles → Knowing → ℕ → Knowing
measure_constant p c all name = if is_valued p c name then publish p (measure p all name true) name else all

abbrev pub measure_other : Project → Circles → Knowing → ℕ → Knowing
measure_other p c all name = if is_valued p c name then all else measure p all name false

abbrev pub measure_all : Project → Circles → Knowing
measure_all p c = fold (measure_other p c) (fold (measure_constant p c) (nothing p) c.order.items) c.order.items
