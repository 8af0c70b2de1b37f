-- Interface blocks and what they list, by numbers: what is kept of generic names. It serves the proof alone.
use Rattle.std.specs.Prelude.{◌≡◌, ℕ, ◌<◌, nat_lt, ◌&&◌, ◌++◌, if◌then◌else◌, List, [], ◌∷◌, map, length, replicate, slice_get, slice_set, Option, Some, None}
use Rattle.std.specs.List.{filter_map, flat_map, position}
use Rattle.std.specs.Option.{option_map_or, option_and_then, option_to_list, unwrap_or}
use Rattle.ftn_tree.specs.declared.form.Form.TheOpen.{Form-F}
use Rattle.ftn_tree.specs.declared.mention.Mention.{Mention}
use Rattle.ftn_tree.specs.declared.mention.Role.TheVariants as role
use Rattle.ftn_tree.specs.declared.table.Entity.{Entity}
use Rattle.ftn_tree.specs.declared.table.Extent.{Extent}
use Rattle.ftn_tree.specs.declared.unit.FileTree.{FileTree}
use Rattle.ftn_tree.specs.Kinds.{is_unit}
use Rattle.ftn_tree.specs.Layers.{FormLayer}
use Rattle.ftn_tree.specs.Roles.{same_role}
use Rattle.ftn_tree.specs.Extents.{extents, scoping, layer_at, encloses, innermost, is_interface, same_extent}
use Rattle.ftn_tree.specs.Scopes.{name_at, scope_name, scope_kind, scope_number}
use Rattle.ftn_tree.specs.Sayings.{mentions_at}
use Rattle.ftn_tree.specs.GlobalNames.{has_no_host}
use Rattle.ftn_tree.specs.Meanings.{is_procedure, unit_of}
use Rattle.ftn_tree.specs.NameFaults.{name_fault}
use Rattle.ftn_tree.specs.Projects.{AreTrees}
use Rattle.decl_table.specs.steps.Following.{is_number, own_by}
use Rattle.decl_table.specs.steps.Located.{IsScoping}
use Rattle.decl_table.specs.steps.Rows.{number_at, rows_of}
use Rattle.const_expr.specs.Namings.{entity_in}
use Rattle.const_value.specs.declared.project.Project.{Project}
use Rattle.const_value.specs.steps.Gathered.{IsGathered}
use Rattle.const_value.specs.steps.Lists.{lists_of}
use Rattle.const_value.specs.steps.Projects as projects
use Rattle.const_value.specs.steps.Projects.{row_in}
use Rattle.name_types.specs.declared.bodies.Placed.{Placed}
use Rattle.name_types.specs.declared.generics.Generics.{Generics}
use Rattle.name_types.specs.steps.Index.{Candidate, candidate, first_at, found_in}

-- ---- extents by their numbers

abbrev pub no_extent : Extent
no_extent = record { file = 0; opening = 0; ending = 0 }

-- the scoping unit of a number
abbrev pub unit_at : List FileTree → ℕ → Extent
unit_at files number = unwrap_or (slice_get (scoping files) number) no_extent

-- the number of the innermost one around
abbrev pub around_number : List FileTree → Extent → Option ℕ
around_number files e = option_and_then (λ around. position (same_extent around) (extents files)) (innermost (encloses e.file e.opening) (extents files))

-- ---- external procedures by name

abbrev pub outside_candidate : List FileTree → Extent → Candidate
outside_candidate files e = candidate (if has_no_host files e && is_procedure (scope_kind files e) then Some 0 else None) (scope_name files e)

abbrev pub outside_number : List FileTree → List ℕ → Option ℕ
outside_number files name = option_and_then (scope_number files) (unit_of files is_procedure name)

-- that of an extent's name, where it is no interface block
abbrev pub outside_of : List FileTree → Extent → Option ℕ
outside_of files e = if is_interface files e then None else outside_number files (scope_name files e)

-- ---- what is right in each extent

abbrev pub placed_of : List FileTree → Extent → Placed
placed_of files e = record { around = around_number files e; number = outside_of files e }

-- its number where it is in that one
abbrev pub in_place : ℕ → Placed → Option ℕ
in_place at p = if is_number at p.around then p.number else None

abbrev pub list_at : List (List ℕ) → ℕ → List ℕ
list_at lists at = unwrap_or (slice_get lists at) []

abbrev pub pushed_at : List (List ℕ) → ℕ → ℕ → List (List ℕ)
pushed_at lists at number = slice_set lists at (list_at lists at ++ number ∷ [])

abbrev pub placed_by : List (List ℕ) → Option ℕ → Option ℕ → List (List ℕ)
placed_by lists (Some around) (Some number) = if nat_lt around (length lists) then pushed_at lists around number else lists
placed_by lists around number = lists

abbrev pub with_placed : List (List ℕ) → Placed → List (List ℕ)
with_placed lists p = placed_by lists p.around p.number

abbrev pub none_of : ℕ → List (List ℕ)
none_of count = replicate count []

-- of each extent the external procedures that have the names of what is right in it
pub record AreBodies (files : List FileTree) (lists : List (List ℕ)) : Type 0 where
  pub sized : length lists ≡ length (extents files)
  pub each : (at : ℕ) → at < length (extents files) → list_at lists at ≡ filter_map (in_place at) (map (placed_of files) (extents files))

-- ---- interface blocks by scoping units and names

abbrev pub token_in : Option FormLayer → Option ℕ
token_in (Some (Form-F.Interface name)) = name
token_in _ = None

abbrev pub generic_token : List FileTree → Extent → Option ℕ
generic_token files e = token_in (layer_at files e.file e.opening)

abbrev pub named_candidate : List FileTree → Extent → ℕ → Candidate
named_candidate files e token = candidate (number_at (rows_of files (scoping files)) e.file e.opening) (name_at files e.file token)

abbrev pub block_candidate : List FileTree → Extent → Candidate
block_candidate files e = option_map_or (named_candidate files e) (generic_token files e) (candidate None [])

abbrev pub block_number : List FileTree → ℕ → List ℕ → Option ℕ
block_number files scope name = first_at scope name (map (block_candidate files) (extents files))

-- ---- what MODULE PROCEDURE names

abbrev pub opened_by : Entity → Option ℕ
opened_by entity = if is_unit entity.kind then entity.opens else None

-- the scoping unit of what the name at a token denotes
abbrev pub unit_by : Project → ℕ → ℕ → Option ℕ
unit_by p file token = option_and_then opened_by (option_and_then (projects.entity_in p.bound.now) (entity_in (row_in p.rows.items file) token))

abbrev pub specific_by : Project → ℕ → Mention → List ℕ
specific_by p file m = if same_role m.role role.Specific then option_to_list (unit_by p file m.token) else []

abbrev pub listed_at : List FileTree → Project → ℕ → ℕ → List ℕ
listed_at files p file statement = flat_map (specific_by p file) (mentions_at files file statement)

abbrev pub listed_by : List FileTree → Generics → ℕ → Extent → List ℕ
listed_by files g scope around = flat_map (listed_at files g.project.now around.file) (own_by scope around g.scoping.now.rows.items)

-- and its bodies
abbrev pub all_by : List FileTree → Generics → ℕ → ℕ → List ℕ
all_by files g scope block = listed_by files g scope (unwrap_or (slice_get g.all.items block) no_extent) ++ list_at (lists_of g.bodies.items) block

-- ---- what is gathered is right

pub record AreGenerics (files : List FileTree) (g : Generics) : Type 0 where
  pub trees : AreTrees files
  pub gathered : IsGathered files g.project.now
  pub scoping : IsScoping files g.scoping.now
  pub names : name_fault files ≡ None
  pub all : g.all.items ≡ extents files
  pub blocks : (scope : ℕ) (name : List ℕ) → found_in g.blocks scope name ≡ block_number files scope name
  pub bodies : AreBodies files (lists_of g.bodies.items)
