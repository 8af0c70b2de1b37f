-- The text of statements once continuations are resolved (Fortran 90, 3.3.1.3): the bytes of all lines in a row.
-- It is defined for any text, so that it can be said where a text breaks a rule: a byte that may not stand there counts as a
-- blank, and a constant that no quote closes ends with its line.
use Rattle.std.specs.Prelude.{ℕ, ◌+◌, Bool, true, false, not, ◌&&◌, ◌==◌, if◌then◌else◌, List, [], ◌∷◌, ◌++◌, length, drop, Option, Some, None}
use Rattle.std.specs.List.{list_any}
use Rattle.std.specs.Option.{option_map_or, option_and_then}
use Rattle.ftn_tree.specs.declared.piece.Spot.{Spot}
use Rattle.ftn_tree.specs.Lines.{Line, indent, code_lines}
use Rattle.ftn_tree.specs.Code.{quote_after, open_after, is_outside, code_of, goes_on, before_mark, leads, is_lone, is_wrong}

-- what stands in the row: a byte, with where it stands; the end of a line that goes on where the next line has no `&` in
-- front, over which no token goes; or the end of a statement
pub data Glyph : Type 0 where
  byte : ℕ → Spot → Glyph
  gap : Glyph
  cut : Glyph

abbrev pub is_cut : Glyph → Bool
is_cut (byte b spot) = false
is_cut gap = false
is_cut cut = true

-- a byte of a line; a `;` outside constants ends a statement
abbrev pub glyph : Option ℕ → Spot → ℕ → Glyph
glyph within spot b =
    if is_outside within && b == 59 then cut
    else if is_outside within && is_wrong within b then byte 32 spot
    else byte b spot

-- bytes of one line, from that offset on, where that quote is open
abbrev pub glyphs : Option ℕ → ℕ → ℕ → List ℕ → List Glyph
glyphs within line at [] = []
glyphs within line at (b ∷ rest) = glyph within (record { at = at; line = line }) b ∷ glyphs (quote_after within b) line (at + 1) rest

-- how a line that goes on is carried over to the next one: the quote that is open, how many lines its statement has been
-- continued by, and the offset of its `&`
pub record Carried : Type 0 where
  pub within : Option ℕ
  pub count : ℕ
  pub mark : ℕ

abbrev pub is_carried : Option Carried → Bool
is_carried None = false
is_carried (Some carried) = true

-- the quote that is open where a line begins
abbrev pub open_in : Option Carried → Option ℕ
open_in before = option_and_then (λ carried. carried.within) before

-- the line's only `&` is neither the end of the line before nor the start of the next
abbrev pub stands_alone : Option Carried → List ℕ → Bool
stands_alone before body = is_outside (open_in before) && is_lone body

-- the text goes on right after the line's leading `&`
abbrev pub joins : Option Carried → List ℕ → Bool
joins before body = is_carried before && leads body && not (stands_alone before body)

-- how many bytes of a line come before what it says
abbrev pub skipped : Option Carried → List ℕ → ℕ
skipped before body = if stands_alone before body then length body else if joins before body then indent body + 1 else 0

-- the quote that is open where what it says begins
abbrev pub open_at : Option Carried → List ℕ → Option ℕ
open_at before body = if joins before body then open_in before else None

-- what a line says: its code, without a leading `&`
abbrev pub said : Option Carried → List ℕ → List ℕ
said before body = code_of (open_at before body) (drop (skipped before body) body)

-- the same without the `&` at its end
abbrev pub text_of : Option Carried → List ℕ → List ℕ
text_of before body = before_mark (said before body)

abbrev pub text_glyphs : Option Carried → Line → List Glyph
text_glyphs before line = glyphs (open_at before line.body) line.number (line.at + skipped before line.body) (text_of before line.body)

abbrev pub line_glyphs : Option Carried → Line → List Glyph
line_glyphs before line =
    (if is_carried before && not (joins before line.body) then gap ∷ [] else [])
    ++ text_glyphs before line
    ++ (if goes_on (said before line.body) then [] else cut ∷ [])

-- how many lines have continued the statement with which a line begins
abbrev pub count_at : Option Carried → ℕ
count_at before = option_map_or (λ carried. carried.count + 1) before 0

-- what a line carries over
abbrev pub carried_by : Option Carried → Line → Carried
carried_by before line = record {
  within = open_after (open_at before line.body) (text_of before line.body);
  count = if list_any is_cut (text_glyphs before line) then 0 else count_at before;
  mark = line.at + skipped before line.body + length (text_of before line.body);
}

abbrev pub after_line : Option Carried → Line → Option Carried
after_line before line = if goes_on (said before line.body) then Some (carried_by before line) else None

abbrev pub row_from : Option Carried → List Line → List Glyph
row_from before [] = []
row_from before (line ∷ lines) = line_glyphs before line ++ row_from (after_line before line) lines

abbrev pub row_of : List ℕ → List Glyph
row_of text = row_from None (code_lines text)
