-- Places: the line and the column of a byte, both from 1, the column in bytes (this project's own).
use Rattle.std.specs.Prelude.{ℕ, Bool, ◌&&◌, ◌==◌, ◌+◌, if◌then◌else◌, List, [], ◌∷◌, take, fold, Option}
use Rattle.std.specs.List.{position_from}

-- a LF is the last byte of its line
abbrev pub advance : ℕ × ℕ → ℕ → ℕ × ℕ
advance place b = if b == 10 then (place.0 + 1, 1) else (place.0, place.1 + 1)

abbrev pub place_of : List ℕ → ℕ → ℕ × ℕ
place_of text at = fold advance (1, 1) (take at text)

-- the place of each byte, where the first stands at this one
abbrev pub places : ℕ × ℕ → List ℕ → List (ℕ × ℕ)
places place [] = []
places place (b ∷ rest) = place ∷ places (advance place b) rest

abbrev pub is_place : ℕ → ℕ → ℕ × ℕ → Bool
is_place line column place = place.0 == line && place.1 == column

-- the offset of the byte at that place, if there is one
abbrev pub offset_of : List ℕ → ℕ → ℕ → Option ℕ
offset_of text line column = position_from (is_place line column) 0 (places (1, 1) text)
