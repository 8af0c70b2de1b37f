-- The bytes of a row stand in the order of the text.
use Rattle.std.proofs.Common.{◌≡◌, ℕ, ◌+◌, ◌-◌, ◌≤◌, List, [], ◌∷◌, ◌++◌, length, Option, None, ◌∙◌, arith}
use Rattle.std.specs.Prelude.{◌&&◌, ◌==◌, not, if◌then◌else◌}
use Rattle.std.specs.List.{filter, slice_split}
use Rattle.std.proofs.lemmas.Bool.{cond_both}
use Rattle.ftn_tree.specs.declared.piece.Spot.{Spot}
use Rattle.ftn_tree.specs.Code.{goes_on, is_outside, is_wrong, quote_after}
use Rattle.ftn_tree.specs.Lines.{Line, code_lines, is_comment, is_line_feed, lines_of, placed, without_return}
use Rattle.ftn_tree.specs.Logical.{Carried, Glyph, byte, gap, cut, after_line, glyph, glyphs, joins, is_carried, line_glyphs, open_at, row_from, row_of, said, skipped, text_of, text_glyphs}
use Rattle.ftn_tree.proofs.LineLaws.{text_by, shorter, span_of_text, span}

-- the bytes stand one after another, from that offset on and before that one
abbrev pub RowRises : ℕ → List Glyph → ℕ → Type 0
RowRises at [] stop = at ≤ stop
RowRises at (byte b spot ∷ row) stop = (at ≤ spot.at) × RowRises (spot.at + 1) row stop
RowRises at (gap ∷ row) stop = RowRises at row stop
RowRises at (cut ∷ row) stop = RowRises at row stop

row_sooner : (from at stop : ℕ) (row : List Glyph) → from ≤ at → RowRises at row stop → RowRises from row stop
row_sooner from at stop [] less rises = omega arith
row_sooner from at stop (byte b spot ∷ row) less (first, more) = (omega arith, more)
row_sooner from at stop (gap ∷ row) less rises = row_sooner from at stop row less rises
row_sooner from at stop (cut ∷ row) less rises = row_sooner from at stop row less rises

row_both : (at mid stop : ℕ) (xs ys : List Glyph) → RowRises at xs mid → RowRises mid ys stop → RowRises at (xs ++ ys) stop
row_both at mid stop [] ys left right = row_sooner at mid stop ys left right
row_both at mid stop (byte b spot ∷ xs) ys (first, more) right = (first, row_both (spot.at + 1) mid stop xs ys more right)
row_both at mid stop (gap ∷ xs) ys left right = row_both at mid stop xs ys left right
row_both at mid stop (cut ∷ xs) ys left right = row_both at mid stop xs ys left right

row_first : (at stop : ℕ) (within : Option ℕ) (spot : Spot) (b : ℕ) (row : List Glyph) → at ≤ spot.at → RowRises (spot.at + 1) row stop → RowRises at (glyph within spot b ∷ row) stop
row_first at stop within spot b row up more =
    cond_both (is_outside within && b == 59) _ _ (λ g. RowRises at (g ∷ row) stop) (λ e. row_sooner at (spot.at + 1) stop row (omega arith) more)
    (λ e. cond_both (is_outside within && is_wrong within b) _ _ (λ g. RowRises at (g ∷ row) stop) (λ f. (up, more)) (λ f. (up, more)))

glyphs_rise : (stop : ℕ) (within : Option ℕ) (line at : ℕ) (bytes : List ℕ) → at + length bytes ≤ stop → RowRises at (glyphs within line at bytes) stop
glyphs_rise stop within line at [] fits = omega arith
glyphs_rise stop within line at (b ∷ bytes) fits =
    row_first at stop within (record { at = at; line = line }) b (glyphs (quote_after within b) line (at + 1) bytes) (omega arith)
    (glyphs_rise stop (quote_after within b) line (at + 1) bytes (omega arith))

line_rises : (stop : ℕ) (before : Option Carried) (line : Line) → line.at + length line.body ≤ stop → RowRises line.at (line_glyphs before line) stop
line_rises stop before line fits =
    let text : skipped before line.body + length (text_of before line.body) ≤ length line.body = text_by before line.body in
    row_both line.at stop stop ((if is_carried before && not (joins before line.body) then gap ∷ [] else []) ++ text_glyphs before line) (if goes_on (said before line.body) then [] else cut ∷ [])
    (row_both line.at (line.at + skipped before line.body) stop (if is_carried before && not (joins before line.body) then gap ∷ [] else []) (text_glyphs before line)
    (cond_both (is_carried before && not (joins before line.body)) _ _ (λ row. RowRises line.at row (line.at + skipped before line.body)) (λ e. omega arith) (λ e. omega arith))
    (glyphs_rise stop (open_at before line.body) line.number (line.at + skipped before line.body) (text_of before line.body) (omega arith)))
    (cond_both (goes_on (said before line.body)) _ _ (λ row. RowRises stop row stop) (λ e. omega arith) (λ e. omega arith))

-- the lines stand one after another
abbrev pub LinesRise : ℕ → List Line → ℕ → Type 0
LinesRise at [] stop = at ≤ stop
LinesRise at (line ∷ lines) stop = (at ≤ line.at) × LinesRise (line.at + length line.body) lines stop

lines_sooner : (from at stop : ℕ) (lines : List Line) → from ≤ at → LinesRise at lines stop → LinesRise from lines stop
lines_sooner from at stop [] less rises = omega arith
lines_sooner from at stop (line ∷ lines) less (first, more) = (omega arith, more)

placed_rise : (stop number at : ℕ) (piece : List ℕ) (pieces : List (List ℕ)) → at + (length piece + 1 + span pieces) ≤ stop + 1 → LinesRise at (placed number at (piece ∷ pieces)) stop
placed_rise stop number at piece [] fits = (omega arith, omega arith)
placed_rise stop number at piece (next ∷ pieces) fits =
    let less : length (without_return piece) ≤ length piece = shorter piece in (
      omega arith,
      lines_sooner (at + length (without_return piece)) (at + length piece + 1) stop (placed (number + 1) (at + length piece + 1) (next ∷ pieces)) (omega arith)
          (placed_rise stop (number + 1) (at + length piece + 1) next pieces (omega arith)),
    )

all_rise : (pieces : List (List ℕ)) (n : ℕ) → span pieces ≡ n + 1 → LinesRise 0 (placed 1 0 pieces) n
all_rise [] n is = absurd (omega (arith, is))
all_rise (piece ∷ pieces) n is = placed_rise n 1 0 piece pieces (omega (arith, is))

lines_rise : (text : List ℕ) → LinesRise 0 (lines_of text) (length text)
lines_rise text = all_rise (slice_split is_line_feed text) (length text) (span_of_text text)

code_rise : (at stop : ℕ) (lines : List Line) → LinesRise at lines stop → LinesRise at (filter (λ line. not (is_comment line.body)) lines) stop
code_rise at stop [] rises = rises
code_rise at stop (line ∷ lines) (first, more) =
    cond_both (not (is_comment line.body)) _ _ (λ kept. LinesRise at kept stop)
    (λ e. (first, code_rise (line.at + length line.body) stop lines more))
    (λ e. lines_sooner at (line.at + length line.body) stop (filter (λ line. not (is_comment line.body)) lines) (omega arith) (code_rise (line.at + length line.body) stop lines more))

from_rises : (at stop : ℕ) (before : Option Carried) (lines : List Line) → LinesRise at lines stop → RowRises at (row_from before lines) stop
from_rises at stop before [] rises = rises
from_rises at stop before (line ∷ lines) (first, more) =
    row_both at (line.at + length line.body) stop (line_glyphs before line) (row_from (after_line before line) lines)
    (row_sooner at line.at (line.at + length line.body) (line_glyphs before line) first (line_rises (line.at + length line.body) before line (omega arith)))
    (from_rises (line.at + length line.body) stop (after_line before line) lines more)

-- the bytes of a text's row stand in its order, and within it
pub row_rises : (text : List ℕ) → RowRises 0 (row_of text) (length text)
row_rises text = from_rises 0 (length text) None (code_lines text) (code_rise 0 (length text) (lines_of text) (lines_rise text))
