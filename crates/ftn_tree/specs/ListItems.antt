-- The items that READ takes from records (Fortran 90, 10.8.1); their few forms are this project's own.
use Rattle.std.specs.Prelude.{ℕ, ℤ, Bool, true, false, ◌&&◌, ◌||◌, not, ◌==◌, if◌then◌else◌, List, [], ◌∷◌, Option, Some, None}
use Rattle.std.specs.List.{list_all}
use Rattle.std.specs.Option.{option_map}
use Rattle.std.specs.Str.{all_ascii_digits}
use Rattle.std.specs.Str.Parse.{without_leading_sign, signed_digits_value}
use Rattle.ftn_base.specs.Arithmetic.{is_integer}
use Rattle.ftn_base.specs.Letters.{is_blank}
use Rattle.ftn_base.specs.declared.entity.Ty.{Ty}
use Rattle.ftn_base.specs.declared.entity.Ty.TheVariants.{Integer, Logical, Character}
use Rattle.ftn_tree.specs.declared.value.Value.{Value}
use Rattle.ftn_tree.specs.declared.value.Value.TheVariants.{Whole, Truth, Chars}

-- any byte but blank, tab, CR and LF
abbrev pub is_item_byte : ℕ → Bool
is_item_byte byte = not (is_blank byte) && not (byte == 13) && not (byte == 10)

abbrev pub is_some : List ℕ → Bool
is_some [] = false
is_some (byte ∷ bytes) = true

-- what may stand as an item at all
abbrev pub is_run : List ℕ → Bool
is_run bytes = is_some bytes && list_all is_item_byte bytes

-- an optional sign, and digits
abbrev pub is_signed_numeral : List ℕ → Bool
is_signed_numeral bytes = is_some (without_leading_sign bytes) && all_ascii_digits (without_leading_sign bytes)

-- the integer that a sign and digits write, within 32 bits
abbrev pub whole_of : List ℕ → Option ℤ
whole_of bytes = if is_signed_numeral bytes && is_integer (signed_digits_value 10 bytes) then Some (signed_digits_value 10 bytes) else None

-- `t` or `f`, in either case
abbrev pub truth_of_letter : ℕ → Option Bool
truth_of_letter letter = if letter == 116 || letter == 84 then Some true else (if letter == 102 || letter == 70 then Some false else None)

-- an optional `.` and one such letter
abbrev pub truth_of : List ℕ → Option Bool
truth_of [] = None
truth_of (letter ∷ []) = truth_of_letter letter
truth_of (point ∷ letter ∷ []) = if point == 46 then truth_of_letter letter else None
truth_of (a ∷ b ∷ c ∷ rest) = None

-- the value that the bytes say at a type, without a look at what separates items
abbrev pub value_of : List ℕ → Ty → Option Value
value_of bytes Integer = option_map Whole (whole_of bytes)
value_of bytes Logical = option_map Truth (truth_of bytes)
value_of bytes (Character length) = Some (Chars bytes)

-- whether an item's value has memory of its own
abbrev pub is_character : Ty → Bool
is_character Integer = false
is_character Logical = false
is_character (Character length) = true

-- the value of an item of the type, where the bytes are one
abbrev pub item_of : List ℕ → Ty → Option Value
item_of bytes ty = if is_run bytes then value_of bytes ty else None
