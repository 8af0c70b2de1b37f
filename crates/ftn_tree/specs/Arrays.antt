-- Elements of arrays and substrings (Fortran 90, 5.1.2, 6.1.1, 6.2.2), for constants and for runs.
use Rattle.std.specs.Prelude.{ℕ, ℤ, pos, negsuc, ◌+◌, ◌*◌, ◌+ℤ◌, ◌-ℤ◌, nat_lt, int_lt, int_le, Bool, ◌&&◌, if◌then◌else◌, is_none, unwrap_or, List, [], ◌∷◌, Option, Some, None}
use Rattle.std.specs.List.{list_any}

-- a dimension: its lower bound and its extent, which `*` leaves open
pub record Axis : Type 0 where
  pub low : ℤ
  pub extent : Option ℕ

abbrev pub at_least_zero : ℤ → ℕ
at_least_zero (pos n) = n
at_least_zero (negsuc n) = 0

-- 5.1.2.4.1: how many numbers there are from the lower bound to the upper one
abbrev pub span : ℤ → ℤ → ℕ
span low high = at_least_zero ((high -ℤ low) +ℤ pos 1)

abbrev pub axis_from : ℤ × ℤ → Axis
axis_from (low, high) = record { low = low; extent = Some (span low high) }

abbrev pub elements : List Axis → ℕ
elements [] = 1
elements (axis ∷ axes) = unwrap_or axis.extent 0 * elements axes

abbrev pub is_open : List Axis → Bool
is_open axes = list_any (λ (axis : Axis). is_none axis.extent) axes

-- how far a subscript is from the lower bound, where it is in range
abbrev pub from_low : Option ℕ → ℤ → Option ℕ
from_low (Some extent) (pos n) = if nat_lt n extent then Some n else None
from_low None (pos n) = Some n
from_low extent (negsuc n) = None

abbrev pub next_axis : Axis → Option ℕ → Option ℕ → Option ℕ
next_axis axis (Some n) (Some rest) = Some (n + unwrap_or axis.extent 0 * rest)
next_axis axis n rest = None

-- 6.2.2.2: the place of an element in array order, from 0. An array without subscripts begins at its first element
abbrev pub place_in : List Axis → List ℤ → Option ℕ
place_in (axis ∷ axes) (subscript ∷ subscripts) = next_axis axis (from_low axis.extent (subscript -ℤ axis.low)) (place_in axes subscripts)
place_in axes subscripts = Some 0

-- the element is one of so many
abbrev pub among : ℕ → Option ℕ → Option ℕ
among count (Some n) = if nat_lt n count then Some n else None
among count None = None

-- the element that subscripts name, of an array of so many
abbrev pub element : ℕ → List Axis → List ℤ → Option ℕ
element count axes [] = Some 0
element count axes (subscript ∷ subscripts) = among count (place_in axes (subscript ∷ subscripts))

-- 6.1.1: the first character of a substring, from 0, and how many there are. Where the range is empty its ends are free
abbrev pub substring : ℕ → ℤ → ℤ → Option (ℕ × ℕ)
substring length low high =
    if int_lt high low then Some (0, 0)
    else if int_le (pos 1) low && int_le high (pos length) then Some (at_least_zero (low -ℤ pos 1), span low high)
    else None

-- the same of a designator with or without a range
abbrev pub part : ℕ → Option (ℤ × ℤ) → Option (ℕ × ℕ)
part length None = Some (0, length)
part length (Some (low, high)) = substring length low high
