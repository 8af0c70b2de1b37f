-- The faults of names, name by name.
use Rattle.std.specs.Prelude.{◌≡◌, ℕ, ◌-◌, Bool, true, false, not, ◌&&◌, nat_eq, List, ◌++◌, length, slice_get, slice_index_or, Option, Some, None, is_some}
use Rattle.std.specs.Option.{option_map_or}
use Rattle.ftn_base.specs.declared.fault.FaultKind.{FaultKind}
use Rattle.ftn_base.specs.declared.fault.FaultKind.TheVariants.{Unknown, RealOutOfProfile}
use Rattle.ftn_base.specs.declared.entity.EntityId.{EntityId}
use Rattle.ftn_base.specs.declared.entity.Letter.{Letter}
use Rattle.ftn_base.specs.declared.entity.Letter.TheVariants as letter
use Rattle.ftn_tree.specs.declared.table.EntityKind.{EntityKind}
use Rattle.ftn_tree.specs.declared.table.Extent.{Extent}
use Rattle.ftn_tree.specs.declared.unit.FileTree.{FileTree}
use Rattle.ftn_tree.specs.DeclarationFaults.{Finding, found}
use Rattle.ftn_tree.specs.Extents.{scoping, layer_at}
use Rattle.ftn_tree.specs.DeclaredEntities.{has_type, has_result_at, is_referenced, kind_said}
use Rattle.ftn_tree.specs.GlobalNames.{Place, place}
use Rattle.ftn_tree.specs.Meanings.{Key, unit, own, Meaning, one, several, keys_of, accessible_in}
use Rattle.ftn_tree.specs.NameFaults as spec
use Rattle.scope_bind.specs.declared.declared.Declared.{Declared}
use Rattle.scope_bind.specs.declared.declared.Declared.TheVariants as says
use Rattle.scope_bind.specs.declared.meaning.Meaning.{Meaning as Made}
use Rattle.scope_bind.specs.declared.meaning.Meaning.TheVariants as made
use Rattle.scope_bind.specs.steps.Globals.{unit_at}
use Rattle.scope_bind.specs.steps.Numbering.{IsNumbered, number_of, own_occurrence}

abbrev pub letter_kind : Letter → Option FaultKind
letter_kind letter.Nothing = Some Unknown
letter_kind letter.Real = Some RealOutOfProfile
letter_kind (letter.Known ty) = None

-- a name that is said
abbrev pub findings_of : List FileTree → Extent → List ℕ → List Finding
findings_of files e name = spec.type_findings files e name (spec.said_of files e name) ++ spec.local_findings files e name (spec.said_of files e name)

abbrev pub types_of : List FileTree → Extent → List ℕ → List Finding
types_of files e name = spec.type_findings files e name (spec.said_of files e name)

abbrev pub locals_of : List FileTree → Extent → List ℕ → List Finding
locals_of files e name = spec.local_findings files e name (spec.said_of files e name)

abbrev pub has_some_type : Option EntityKind → Bool
has_some_type kind = option_map_or has_type kind false

-- ---- names that their first letters type

abbrev pub is_nothing : Declared → Bool
is_nothing says.Nothing = true
is_nothing other = false

-- the number is that of what the name is in the scoping unit of that number itself
abbrev pub is_own_number : List FileTree → ℕ → List ℕ → EntityId → Bool
is_own_number files scope name entity = is_some (own_occurrence files scope name) && nat_eq (number_of files (own (unit_at files scope) name)) entity.0

abbrev pub is_own_meaning : List FileTree → ℕ → List ℕ → Made → Bool
is_own_meaning files scope name (made.One entity) = is_own_number files scope name entity
is_own_meaning files scope name other = false

-- the place of the first letter in the alphabet
abbrev pub first_letter : List ℕ → ℕ
first_letter name = slice_index_or name 0 97 - 97

-- what the name declares
abbrev pub kind_of : List FileTree → Extent → List ℕ → Option EntityKind
kind_of files e name = kind_said (has_result_at (layer_at files e.file e.opening)) (is_referenced files e name) (spec.said_of files e name)

-- a fault where the name begins
abbrev pub found_at : List FileTree → FaultKind → Extent → List ℕ → Finding
found_at files kind e name = found kind (place e.file (spec.begins (spec.said_of files e name)))

-- USE makes something accessible by that name
abbrev pub is_used : List FileTree → Extent → List ℕ → Bool
is_used files e name = not (nat_eq (length (keys_of name (accessible_in files e))) 0)

-- ---- where entities begin

abbrev pub unit_key : List FileTree → ℕ → Key
unit_key files scope = unit (unit_at files scope)

-- where the entity begins that a name is in the scoping unit of that number
abbrev pub begin_place : List FileTree → ℕ → List ℕ → Place
begin_place files scope name = place (unit_at files scope).file (spec.begins (spec.said_of files (unit_at files scope) name))

-- an entity that a scoping unit of the project declares
abbrev pub IsMember : List FileTree → Key → Type 0
IsMember files (own e name) = (scope : ℕ) × (slice_get (scoping files) scope ≡ Some e)
IsMember files other = Unit {0}

-- what is told of it has numbers of its own: the one entity, and of several the second one
abbrev pub IsNumberedMeaning : List FileTree → Meaning → Type 0
IsNumberedMeaning files (one key) = IsNumbered files key
IsNumberedMeaning files (several first second rest) = IsNumbered files second × IsMember files second
IsNumberedMeaning files other = Unit {0}
