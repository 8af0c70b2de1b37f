-- The names of scoping units, numbered. It serves the proof alone.
use Rattle.std.specs.Prelude.{ℕ, ◌+◌, Bool, if◌then◌else◌, List, [], ◌∷◌, ◌++◌, map, length, take, slice_get, slice_set, Option, Some, None}
use Rattle.std.specs.Borrow.{Bor}
use Rattle.std.specs.List.{filter, flat_map}
use Rattle.std.specs.Option.{option_map_or, option_and_then, unwrap_or}
use Rattle.std.specs.Str.{bytes_eq}
use Rattle.indexmap.specs.IndexMap.{IndexMap, get_by}
use Rattle.ftn_tree.specs.declared.table.Extent.{Extent}
use Rattle.ftn_tree.specs.declared.table.Scope.{Scope}
use Rattle.ftn_tree.specs.declared.unit.FileTree.{FileTree}
use Rattle.ftn_tree.specs.DeclarationFaults.{is_block_data}
use Rattle.ftn_tree.specs.DeclaredEntities.{names_after}
use Rattle.ftn_tree.specs.Extents.{scoping}
use Rattle.ftn_tree.specs.KeyKinds.{Datum, datum}
use Rattle.ftn_tree.specs.Sayings.{Saying, sayings, same_name}
use Rattle.const_value.specs.declared.name_numbers.Owned.{Owned}
use Rattle.const_value.specs.steps.Said.{nothing, said_in, with_saying}

-- the number that a map has by that name
abbrev pub number_in : {S : Type 0} → IndexMap (Bor (List ℕ)) ℕ S → List ℕ → Option ℕ
number_in numbers name = get_by (λ key. bytes_eq name key.now) numbers

-- the number of the name among names that are numbered from that one on
abbrev pub number_from : ℕ → List ℕ → List (List ℕ) → Option ℕ
number_from first name [] = None
number_from first name (other ∷ rest) = if bytes_eq name other then Some first else number_from (first + 1) name rest

-- ---- one scoping unit

abbrev pub letter_of : List ℕ → ℕ
letter_of name = unwrap_or (slice_get name 0) 0

abbrev pub owned : ℕ → ℕ → Bool → List Saying → List ℕ → Owned
owned scope file in_block_data said name =
    record { scope = scope; file = file; letter = letter_of name; said = said_in in_block_data (filter (same_name name) said) }

abbrev pub owned_in : ℕ → ℕ → Bool → List Saying → List Owned
owned_in scope file in_block_data said = map (owned scope file in_block_data said) (names_after [] said)

-- a name of which nothing is said
abbrev pub unsaid : ℕ → ℕ → List ℕ → Owned
unsaid scope file name = record { scope = scope; file = file; letter = letter_of name; said = nothing }

abbrev pub if_new : Option ℕ → Owned → List Owned
if_new None one = one ∷ []
if_new (Some number) one = []

abbrev pub with_said : Bool → Saying → Owned → Owned
with_said in_block_data s o = record { scope = o.scope; file = o.file; letter = o.letter; said = with_saying in_block_data o.said s }

abbrev pub said_at : Bool → Saying → ℕ → List Owned → List Owned
said_at in_block_data s number all = option_map_or (λ o. slice_set all number (with_said in_block_data s o)) (slice_get all number) all

-- ---- all scoping units, by what is said in each

-- the number of the first name of a scoping unit
abbrev pub first_of : List (List Saying) → ℕ → ℕ
first_of said scope = length (flat_map (names_after []) (take scope said))

abbrev pub number_of : List (List Saying) → ℕ → List ℕ → Option ℕ
number_of said scope name = option_and_then (λ one. number_from (first_of said scope) name (names_after [] one)) (slice_get said scope)

abbrev pub owned_from : ℕ → List Scope → List (List Saying) → List Owned
owned_from scope [] said = []
owned_from scope (entry ∷ entries) [] = []
owned_from scope (entry ∷ entries) (one ∷ said) =
    owned_in scope entry.unit.file (is_block_data entry.kind) one ++ owned_from (scope + 1) entries said

-- the number that is kept of a name of a scoping unit
abbrev pub number_at : {S : Type 0} → List (IndexMap (Bor (List ℕ)) ℕ S) → ℕ → List ℕ → Option ℕ
number_at numbers scope name = option_and_then (λ one. number_in one name) (slice_get numbers scope)

-- ---- a project

-- the names of its scoping units: the number of a name is its place among these
abbrev pub data_in : List FileTree → Extent → List Datum
data_in files e = map (datum e) (names_after [] (sayings files e))

abbrev pub all_data : List FileTree → List Datum
all_data files = flat_map (data_in files) (scoping files)

abbrev pub all_said : List FileTree → List (List Saying)
all_said files = map (sayings files) (scoping files)
