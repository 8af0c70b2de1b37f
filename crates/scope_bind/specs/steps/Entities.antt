-- Entities of a project by drafts, and the final numbers by provisional ones.
use Rattle.std.specs.Prelude.{◌≡◌, ℕ, ◌+◌, Bool, false, nat_lt, nat_eq, if◌then◌else◌, List, [], ◌∷◌, length, slice_get, slice_set, Option, Some, None}
use Rattle.std.specs.List.{position}
use Rattle.std.specs.Option.{option_map, option_map_or}
use Rattle.ftn_tree.specs.declared.table.Entity.{Entity}
use Rattle.ftn_tree.specs.declared.table.EntityKind.{EntityKind}
use Rattle.ftn_tree.specs.declared.table.EntityKind.TheVariants as kinds
use Rattle.ftn_tree.specs.declared.table.Extent.{Extent}
use Rattle.ftn_tree.specs.declared.unit.FileTree.{FileTree}
use Rattle.ftn_tree.specs.Bindings as spec
use Rattle.ftn_tree.specs.DeclaredEntities.{Drafted}
use Rattle.ftn_tree.specs.Meanings.{Key}
use Rattle.ftn_tree.specs.Scopes.{name_at}
use Rattle.decl_table.specs.declared.block_names.TokenAt.{TokenAt}
use Rattle.decl_table.specs.declared.draft.Draft.{Draft}
use Rattle.scope_bind.specs.declared.meaning.Meaning.{Meaning}
use Rattle.scope_bind.specs.declared.meaning.Meaning.TheVariants as made
use Rattle.scope_bind.specs.declared.occurrences.Denoted.{Denoted}
use Rattle.scope_bind.specs.steps.Numbering.{IsNumbered, number_of, intrinsic_number, own_occurrence, name_occurrence, units_count, names_count}

-- the name at a token of a scoping unit, where its first letter types it
abbrev pub letter_at : List FileTree → Extent → ℕ → List Drafted
letter_at files e token =
    if spec.is_letter_typed files e (name_at files e.file token) then spec.draft_letter files e (name_at files e.file token) ∷ [] else []

-- for each key with a provisional number the number of its first entity among those from that number on, 0 where there is none
abbrev pub first_entity : List FileTree → Key → ℕ → List Entity → ℕ
first_entity files key at entities = option_map_or (λ index. index + at) (position (spec.is_entity_of files key) entities) 0

abbrev pub AreNumbers : List FileTree → ℕ → List Entity → List ℕ → Type 0
AreNumbers files at entities numbers = (key : Key) → IsNumbered files key → slice_get numbers (number_of files key) ≡ Some (first_entity files key at entities)

-- how many provisional numbers there are
abbrev pub count_of : List FileTree → ℕ
count_of files = units_count files + names_count files + names_count files + names_count files

-- the provisional numbers that an entity has: by what it opens, by its name in its home, and by its name alone
abbrev pub unit_number_by : List FileTree → Option ℕ → Option ℕ
unit_number_by files None = None
unit_number_by files (Some scope) = if nat_lt scope (units_count files) then Some scope else None

abbrev pub own_number_by : List FileTree → Option ℕ → Option ℕ → Option (List ℕ) → Option ℕ
own_number_by files None (Some home) (Some name) = option_map (λ at. units_count files + at) (own_occurrence files home name)
own_number_by files _ _ _ = None

abbrev pub name_number_by : List FileTree → EntityKind → Option (List ℕ) → Option ℕ
name_number_by files kinds.Block (Some name) = option_map (λ at. units_count files + names_count files + at) (name_occurrence files name)
name_number_by files kinds.Intrinsic (Some name) = option_map (λ at. units_count files + names_count files + names_count files + at) (name_occurrence files name)
name_number_by files _ _ = None

abbrev pub unit_number_of : List FileTree → Entity → Option ℕ
unit_number_of files entity = unit_number_by files entity.opens

abbrev pub own_number_of : List FileTree → Entity → Option ℕ
own_number_of files entity = own_number_by files entity.opens entity.home entity.name

abbrev pub name_number_of : List FileTree → Entity → Option ℕ
name_number_of files entity = name_number_by files entity.kind entity.name

-- writes a number at a place, where there is one
abbrev pub put_if : Option ℕ → ℕ → List ℕ → List ℕ
put_if None at numbers = numbers
put_if (Some number) at numbers = if nat_lt number (length numbers) then slice_set numbers number at else numbers

abbrev pub is_intrinsic_number : List FileTree → List ℕ → Meaning → Bool
is_intrinsic_number files name (made.One entity) = nat_eq (intrinsic_number files name) entity.0
is_intrinsic_number files name other = false

-- where a name denotes the intrinsic function of its name
abbrev pub is_intrinsic_at : List FileTree → Denoted → Bool
is_intrinsic_at files d = is_intrinsic_number files (name_at files d.file d.token) d.meaning

abbrev pub token_of : Denoted → TokenAt
token_of d = record { file = d.file; token = d.token }

-- an intrinsic function, where it is first
abbrev pub intrinsic_as : TokenAt → Draft
intrinsic_as at = record {
  file = at.file;
  token = at.token;
  last = false;
  name = Some at.token;
  home = None;
  kind = kinds.Intrinsic;
  implicit = false;
  opens = None;
}
