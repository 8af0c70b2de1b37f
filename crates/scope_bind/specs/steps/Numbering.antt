-- Provisional numbers of entities: first the scoping units; then the names of scoping units, the common blocks and the intrinsic functions, each by
-- the first occurrence of the name.
use Rattle.std.specs.Prelude.{◌≡◌, ℕ, ◌+◌, ◌*◌, ◌&&◌, nat_eq, List, length, map, true, Option, Some, None, is_some}
use Rattle.std.specs.List.{position}
use Rattle.std.specs.Option.{unwrap_or}
use Rattle.std.specs.Str.{bytes_eq}
use Rattle.ftn_base.specs.Exports.{PairOf, Pair}
use Rattle.ftn_base.specs.declared.entity.EntityId.{EntityId}
use Rattle.ftn_tree.specs.declared.table.Extent.{Extent}
use Rattle.ftn_tree.specs.declared.table.Occurrence.{Occurrence}
use Rattle.ftn_tree.specs.declared.unit.FileTree.{FileTree}
use Rattle.ftn_tree.specs.DeclaredEntities.{occurrences_of}
use Rattle.ftn_tree.specs.Extents.{scoping}
use Rattle.ftn_tree.specs.Meanings.{Key, unit, own, block, intrinsic_function}
use Rattle.ftn_tree.specs.Scopes.{scope_number}
use Rattle.scope_bind.specs.declared.numbering.Numbering.{Numbering}
use Rattle.scope_bind.specs.steps.Globals.{inner_candidate}
use Rattle.scope_bind.specs.steps.Index.{found_in, first_at}

-- the first occurrence of a name in the scoping unit of that number
abbrev pub own_occurrence : List FileTree → ℕ → List ℕ → Option ℕ
own_occurrence files scope name = position (λ (o : Occurrence). nat_eq o.scope scope && bytes_eq o.name name) (occurrences_of files)

-- the first occurrence of a name anywhere
abbrev pub name_occurrence : List FileTree → List ℕ → Option ℕ
name_occurrence files name = position (λ (o : Occurrence). bytes_eq o.name name) (occurrences_of files)

abbrev pub units_count : List FileTree → ℕ
units_count files = length (scoping files)

abbrev pub names_count : List FileTree → ℕ
names_count files = length (occurrences_of files)

abbrev pub numbered_from : ℕ → Option ℕ → ℕ
numbered_from start found = start + unwrap_or found 0

abbrev pub own_number : List FileTree → ℕ → List ℕ → ℕ
own_number files scope name = numbered_from (units_count files) (own_occurrence files scope name)

abbrev pub block_number : List FileTree → List ℕ → ℕ
block_number files name = numbered_from (units_count files + names_count files) (name_occurrence files name)

abbrev pub intrinsic_number : List FileTree → List ℕ → ℕ
intrinsic_number files name = numbered_from (units_count files + names_count files + names_count files) (name_occurrence files name)

-- blank common has no name, so none denotes it
abbrev pub number_of : List FileTree → Key → ℕ
number_of files (unit e) = unwrap_or (scope_number files e) 0
number_of files (own e name) = own_number files (unwrap_or (scope_number files e) 0) name
number_of files (block None) = 0
number_of files (block (Some name)) = block_number files name
number_of files (intrinsic_function name) = intrinsic_number files name

abbrev pub number : List FileTree → Key → EntityId
number files key = record { 0 = number_of files key }

-- a pair with the number of its entity
abbrev pub with_number : List FileTree → PairOf Key → Pair
with_number files pair = (pair.0, number files pair.1)

-- the key has a number of its own
abbrev pub IsNumbered : List FileTree → Key → Type 0
IsNumbered files (unit e) = is_some (scope_number files e) ≡ true
IsNumbered files (own e name) = (scope : ℕ) × (scope_number files e ≡ Some scope) × (is_some (own_occurrence files scope name) ≡ true)
IsNumbered files (block None) = ⊥
IsNumbered files (block (Some name)) = is_some (name_occurrence files name) ≡ true
IsNumbered files (intrinsic_function name) = is_some (name_occurrence files name) ≡ true

pub record IsNumbering (files : List FileTree) (n : Numbering) : Type 0 where
  pub own : (scope : ℕ) (name : List ℕ) → found_in n.own scope name ≡ own_occurrence files scope name
  pub names : (name : List ℕ) → found_in n.names 0 name ≡ name_occurrence files name
  pub inner : (scope : ℕ) (name : List ℕ) → found_in n.inner scope name ≡ first_at scope name (map (inner_candidate files) (scoping files))
  pub units : n.units ≡ units_count files
  pub occurrences : n.occurrences ≡ names_count files
