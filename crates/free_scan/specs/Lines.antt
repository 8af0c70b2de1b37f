-- Lines of a text (Fortran 90, 3.3.1). Each has its LF; the last one may lack it.
use Rattle.std.specs.Prelude.{ℕ, ◌+◌, Bool, ◌&&◌, ◌||◌, ◌==◌, nat_le, List, [], ◌∷◌, length, if◌then◌else◌}
use Rattle.std.specs.List.{list_all, ends_with, onto_first}
use Rattle.ftn_base.specs.Letters.{is_within}
use Rattle.ftn_base.specs.Limits.{line_limit}
use Rattle.ftn_tree.specs.Lines.{is_line_feed}

abbrev pub lines : List ℕ → List (List ℕ)
lines [] = []
lines (b ∷ rest) = if is_line_feed b then (b ∷ []) ∷ lines rest else onto_first b (lines rest)

abbrev pub is_plain_byte : ℕ → Bool
is_plain_byte b = is_line_feed b || is_within 32 126 b

-- a line that ends with LF, has at most 132 bytes before it, and has no byte but printable ones and spaces
abbrev pub is_plain_line : List ℕ → Bool
is_plain_line line = ends_with ◌==◌ line (10 ∷ []) && nat_le (length line) (line_limit + 1) && list_all is_plain_byte line

abbrev pub is_plain : List ℕ → Bool
is_plain text = list_all is_plain_line (lines text)
