-- Program units, procedures and blocks by name.
use Rattle.std.specs.Prelude.{◌≡◌, ◌<◌, ℕ, Bool, ◌&&◌, if◌then◌else◌, List, [], ◌∷◌, map, length, slice_get, Option, Some, None}
use Rattle.std.specs.List.{list_any}
use Rattle.std.specs.Option.{option_and_then, unwrap_or}
use Rattle.ftn_tree.specs.declared.table.Extent.{Extent}
use Rattle.ftn_tree.specs.declared.table.Occurrence.{Occurrence}
use Rattle.ftn_tree.specs.declared.table.ScopeKind.{ScopeKind}
use Rattle.ftn_tree.specs.declared.unit.FileTree.{FileTree}
use Rattle.ftn_tree.specs.Extents.{scoping, host_of, is_body}
use Rattle.ftn_tree.specs.GlobalNames.{Global, program_units, blocks, has_no_host, same_name}
use Rattle.ftn_tree.specs.Meanings.{is_module, is_function, is_procedure, unit_of, module_number, module_numbered}
use Rattle.ftn_tree.specs.Scopes.{scope_kind, scope_name, scope_number, host_number}
use Rattle.decl_table.specs.steps.Seen.{has_come}
use Rattle.scope_bind.specs.declared.candidates.Sort.{Sort}
use Rattle.scope_bind.specs.declared.candidates.Sort.TheVariants as sort
use Rattle.scope_bind.specs.declared.globals.Globals.{Globals}
use Rattle.scope_bind.specs.steps.Index.{Candidate, candidate, found_in}

-- the scoping unit of a number
abbrev pub no_extent : Extent
no_extent = record { file = 0; opening = 0; ending = 0 }

abbrev pub unit_at : List FileTree → ℕ → Extent
unit_at files number = unwrap_or (slice_get (scoping files) number) no_extent

abbrev pub wanted_by : Sort → ScopeKind → Bool
wanted_by sort.Procedure kind = is_procedure kind
wanted_by sort.Function kind = is_function kind

-- a program unit of that sort
abbrev pub outer_candidate : List FileTree → Sort → Extent → Candidate
outer_candidate files sort e = candidate (if has_no_host files e && wanted_by sort (scope_kind files e) then Some 0 else None) (scope_name files e)

-- a module
abbrev pub module_candidate : List FileTree → Extent → Candidate
module_candidate files e = candidate (Some 0) (scope_name files e)

-- a procedure right inside another scoping unit
abbrev pub inner_candidate : List FileTree → Extent → Candidate
inner_candidate files e = candidate (if is_body files e then None else host_number files e) (scope_name files e)

-- an occurrence in its scoping unit
abbrev pub own_candidate : Occurrence → Candidate
own_candidate o = candidate (Some o.scope) o.name

-- an occurrence anywhere
abbrev pub name_candidate : Occurrence → Candidate
name_candidate o = candidate (Some 0) o.name

-- the number of the scoping unit of a procedure or of a function outside
abbrev pub unit_number : List FileTree → Sort → List ℕ → Option ℕ
unit_number files sort name = option_and_then (scope_number files) (unit_of files (wanted_by sort) name)

abbrev pub is_block : List FileTree → List ℕ → Bool
is_block files name = list_any (λ (g : Global). same_name g.name (Some name)) (blocks files)

-- the number is that of a scoping unit
abbrev pub IsNumber : List FileTree → ℕ → Type 0
IsNumber files number = number < length (scoping files)

-- the number of a scoping unit, where it is a module
abbrev pub module_at : List FileTree → ℕ → List ℕ
module_at files number =
    if has_no_host files (unit_at files number) && is_module (scope_kind files (unit_at files number)) then number ∷ [] else []

pub record AreGlobals (files : List FileTree) (g : Globals) : Type 0 where
  pub procedures : (name : List ℕ) → found_in g.procedures 0 name ≡ unit_number files sort.Procedure name
  pub functions : (name : List ℕ) → found_in g.functions 0 name ≡ unit_number files sort.Function name
  pub modules : map (λ (n : ℕ). Some n) g.modules.items ≡ map (scope_number files) (module_numbered files)
  pub module_names : (name : List ℕ) → found_in g.module_names 0 name ≡ module_number files name
  pub blocks : (name : List ℕ) → has_come g.blocks name ≡ is_block files name
