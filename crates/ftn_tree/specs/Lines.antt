-- Lines of a text (Fortran 90, 3.3.1). A line ends with LF or, as this project's own, with CR LF; the last one may lack its end.
use Rattle.std.specs.Prelude.{ℕ, ◌+◌, ◌-◌, Bool, true, false, not, ◌||◌, ◌==◌, if◌then◌else◌, List, [], ◌∷◌, map, length, take, drop}
use Rattle.std.specs.List.{slice_split, ends_with, prefix_len, filter}
use Rattle.ftn_base.specs.Letters.{is_blank}

abbrev pub is_line_feed : ℕ → Bool
is_line_feed b = b == 10

-- whether the first of them is that one
abbrev pub begins_with : ℕ → List ℕ → Bool
begins_with byte [] = false
begins_with byte (b ∷ rest) = b == byte

-- without the CR before an LF
abbrev pub without_return : List ℕ → List ℕ
without_return body = if ends_with ◌==◌ body (13 ∷ []) then take (length body - 1) body else body

-- a line: its number from 1, the offset of its first byte, and its bytes but for its end
pub record Line : Type 0 where
  pub number : ℕ
  pub at : ℕ
  pub body : List ℕ

-- the lines of what stands between the LFs of a text
abbrev pub placed : ℕ → ℕ → List (List ℕ) → List Line
placed number at [] = []
placed number at (last ∷ []) = record { number = number; at = at; body = last } ∷ []
placed number at (piece ∷ next ∷ rest) =
    record { number = number; at = at; body = without_return piece } ∷ placed (number + 1) (at + length piece + 1) (next ∷ rest)

abbrev pub lines_of : List ℕ → List Line
lines_of text = placed 1 0 (slice_split is_line_feed text)

-- how many blanks a line begins with
abbrev pub indent : List ℕ → ℕ
indent body = prefix_len is_blank body

abbrev pub is_nothing : List ℕ → Bool
is_nothing [] = true
is_nothing (b ∷ rest) = false

-- 3.3.1.1: a line of blanks, or one whose first byte but for blanks is `!`
abbrev pub is_comment : List ℕ → Bool
is_comment body = is_nothing (drop (indent body) body) || begins_with 33 (drop (indent body) body)

abbrev pub code_lines : List ℕ → List Line
code_lines text = filter (λ line. not (is_comment line.body)) (lines_of text)

-- where lines begin: at first, and after each LF
abbrev pub line_starts : List ℕ → List ℕ
line_starts text = map (λ line. line.at) (lines_of text)
