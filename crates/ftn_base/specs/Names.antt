-- Names (Fortran 90, 3.2.1), and the names of files, which are this project's own.
use Rattle.std.specs.Prelude.{ℕ, Bool, false, not, ◌&&◌, ◌==◌, nat_lt, nat_le, List, [], ◌∷◌, length}
use Rattle.std.specs.List.{list_all}
use Rattle.std.specs.Str.{bytes_eq}
use Rattle.ftn_base.specs.Letters.{folded, is_within, is_letter, is_name_byte}
use Rattle.ftn_base.specs.Limits.{most_file_name_bytes}

abbrev pub are_name_bytes : List ℕ → Bool
are_name_bytes bytes = list_all is_name_byte bytes

-- a letter, then letters, digits and underscores, at most limit bytes in all
abbrev pub is_name : ℕ → List ℕ → Bool
is_name limit [] = false
is_name limit (first ∷ rest) = is_letter first && nat_lt (length rest) limit && are_name_bytes rest

-- a letter, then letters, digits and underscores, however many
abbrev pub is_name_text : List ℕ → Bool
is_name_text [] = false
is_name_text (first ∷ rest) = is_letter first && are_name_bytes rest

-- a name of whatever edition in lower case, as it is compared
abbrev pub is_folded_name : List ℕ → Bool
is_folded_name bytes = is_name_text bytes && bytes_eq (folded bytes) bytes

-- printable, no blank and no slash
abbrev pub is_file_byte : ℕ → Bool
is_file_byte b = is_within 33 126 b && not (b == 47)

abbrev pub are_file_bytes : List ℕ → Bool
are_file_bytes bytes = list_all is_file_byte bytes

-- 1 to 255 such bytes
abbrev pub is_file_name : List ℕ → Bool
is_file_name bytes = nat_le 1 (length bytes) && nat_le (length bytes) most_file_name_bytes && are_file_bytes bytes
