-- What storage units hold, and values in them (Fortran 90, 14.6.3.1, 14.7, 7.5.1).
use Rattle.std.specs.Prelude.{ℕ, ◌+◌, List, [], ◌∷◌, map, length, take, drop, slice_set, Option, Some, None}
use Rattle.std.specs.Option.{option_map}
use Rattle.ftn_base.specs.declared.entity.Ty.{Ty}
use Rattle.ftn_base.specs.declared.entity.Ty.TheVariants.{Integer, Logical, Character}
use Rattle.ftn_tree.specs.declared.value.Value.{Value}
use Rattle.ftn_tree.specs.declared.value.Value.TheVariants as value
use Rattle.ftn_tree.specs.Operations.{fitted}
use Rattle.core_prog.specs.declared.storage.Content.{Content}
use Rattle.core_prog.specs.declared.storage.Content.TheVariants.{Whole, Truth, Byte}

abbrev pub bytes_of : List Content → Option (List ℕ)
bytes_of [] = Some []
bytes_of (Byte byte ∷ contents) = option_map (λ bytes. byte ∷ bytes) (bytes_of contents)
bytes_of (other ∷ contents) = None

-- the value that a reference of the type finds, where the units hold one of it
abbrev pub value_in : Ty → List Content → Option Value
value_in Integer (Whole z ∷ contents) = Some (value.Whole z)
value_in Logical (Truth truth ∷ contents) = Some (value.Truth truth)
value_in (Character length) contents = option_map value.Chars (bytes_of contents)
value_in other contents = None

-- what so many units hold once the value is assigned to them
abbrev pub contents_of : ℕ → Value → List Content
contents_of n (value.Whole z) = Whole z ∷ []
contents_of n (value.Truth truth) = Truth truth ∷ []
contents_of n (value.Chars text) = map Byte (fitted n text)

-- how many units a value takes
abbrev pub units_of : Value → ℕ
units_of (value.Chars text) = length text
units_of other = 1

-- the contents of so many units from that one on
abbrev pub units_from : ℕ → ℕ → List Content → List Content
units_from first n cells = take n (drop first cells)

-- contents put into the units from that one on
abbrev pub stored : ℕ → List Content → List Content → List Content
stored first [] cells = cells
stored first (content ∷ contents) cells = stored (first + 1) contents (slice_set cells first content)
