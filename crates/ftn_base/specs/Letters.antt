-- The character set, and folding (Fortran 90, 3.1: case does not count).
use Rattle.std.specs.Prelude.{ℕ, Bool, ◌&&◌, ◌||◌, nat_le, ◌==◌, ◌+◌, if◌then◌else◌, List, map}

abbrev pub is_within : ℕ → ℕ → ℕ → Bool
is_within low high b = nat_le low b && nat_le b high

abbrev pub is_upper : ℕ → Bool
is_upper b = is_within 65 90 b

abbrev pub is_letter : ℕ → Bool
is_letter b = is_upper b || is_within 97 122 b

abbrev pub is_digit : ℕ → Bool
is_digit b = is_within 48 57 b

-- 3.2.1: a letter, a digit or an underscore
abbrev pub is_name_byte : ℕ → Bool
is_name_byte b = is_letter b || is_digit b || b == 95

-- a space or, as this project's own, a tab
abbrev pub is_blank : ℕ → Bool
is_blank b = b == 32 || b == 9

abbrev pub fold_byte : ℕ → ℕ
fold_byte b = if is_upper b then b + 32 else b

-- a text in lower case
abbrev pub folded : List ℕ → List ℕ
folded text = map fold_byte text
