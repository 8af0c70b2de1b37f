-- Letters with their implicit types (Fortran 90, 5.3). A map is the list of the entries of A to Z.
use Rattle.std.specs.Prelude.{ℕ, ◌+◌, ◌-◌, Bool, false, true, if◌then◌else◌, List, map, slice_index_or, Option, Some, None, Result, Ok, Err}
use Rattle.std.specs.List.{find, range_with_len}
use Rattle.ftn_base.specs.Letters.{is_within}
use Rattle.ftn_base.specs.declared.entity.Letter.{Letter}
use Rattle.ftn_base.specs.declared.entity.Letter.TheVariants.{Nothing, Real, Known}
use Rattle.ftn_base.specs.declared.entity.Ty.TheVariants.{Integer}
use Rattle.ftn_base.specs.declared.implicit.Twice.{Twice}

-- the type of a letter, and whether a range of the scoping unit gave it
abbrev pub Entry : Type 0
Entry = Letter × Bool

-- the letters from one to another, by their codes in lower case
abbrev pub letters_between : ℕ → ℕ → List ℕ
letters_between from to = range_with_len from (to + 1 - from)

-- A to Z
unfoldable pub alphabet : List ℕ
alphabet = letters_between 97 122

abbrev pub entry_of : ℕ → List Entry → Entry
entry_of letter entries = slice_index_or entries (letter - 97) (Nothing, false)

-- the implicit type of a letter
abbrev pub type_of : ℕ → List Entry → Letter
type_of letter entries = (entry_of letter entries).0

-- whether a range of the scoping unit gave the letter
abbrev pub is_given : List Entry → ℕ → Bool
is_given entries letter = (entry_of letter entries).1

-- I to N are integer, all others real
abbrev pub standard_type : ℕ → Letter
standard_type letter = if is_within 105 110 letter then Known Integer else Real

abbrev pub standard : List Entry
standard = map (λ letter. (standard_type letter, false)) alphabet

-- no letter has a type
abbrev pub none : List Entry
none = map (λ letter. (Nothing, false)) alphabet

-- the same types, none given
abbrev pub inner : List Entry → List Entry
inner entries = map (λ letter. (type_of letter entries, false)) alphabet

-- exactly the letters from one to another have this entry, and all others keep theirs
abbrev pub with_entry : ℕ → ℕ → Entry → List Entry → List Entry
with_entry from to entry entries = map (λ letter. if is_within from to letter then entry else entry_of letter entries) alphabet

-- the first letter of the range that was given
abbrev pub first_given : ℕ → ℕ → List Entry → Option ℕ
first_given from to entries = find (is_given entries) (letters_between from to)

-- the map after a range, or the first letter of the range that was given before
abbrev pub ranged : Option ℕ → List Entry → Result (List Entry) Twice
ranged None entries = Ok entries
ranged (Some letter) entries = Err (record { 0 = letter })

abbrev pub with_range : ℕ → ℕ → Letter → List Entry → Result (List Entry) Twice
with_range from to letter entries = ranged (first_given from to entries) (with_entry from to (letter, true) entries)
