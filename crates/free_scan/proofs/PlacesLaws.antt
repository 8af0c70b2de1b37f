-- A text breaks rules at its own places alone.
use Rattle.std.proofs.Common.{◌≡◌, ℕ, zero, suc, ◌+◌, ◌-◌, ◌≤◌, ◌<◌, ◌⊎◌, inl, inr, Bool, true, false, List, [], ◌∷◌, ◌++◌, length, take, drop, Option, None, Some, refl, ◌∙◌, arith}
use Rattle.std.specs.Prelude.{⊤, ◌&&◌, ◌==◌, not, nat_lt, if◌then◌else◌}
use Rattle.std.specs.List.{filter, flat_map, slice_split, onto_first}
use Rattle.std.proofs.lemmas.Bool.{cond_both}
use Rattle.std.proofs.lemmas.Bool.Decides.{nat_tests}
use Rattle.std.proofs.lemmas.List.Concat.{flat_map-cons}
use Rattle.std.proofs.lemmas.List.Sums.{prefix_len-le-length}
use Rattle.ftn_base.specs.Letters.{is_blank}
use Rattle.ftn_base.specs.Limits.{continuation_limit, line_limit}
use Rattle.ftn_base.specs.declared.name.Edition.{Edition}
use Rattle.ftn_base.specs.declared.fault.FaultKind.{FaultKind}
use Rattle.ftn_base.specs.declared.fault.FaultKind.TheVariants as kinds
use Rattle.ftn_tree.specs.declared.piece.PieceKind.{PieceKind}
use Rattle.ftn_tree.specs.declared.piece.PieceKind.TheVariants as pieces
use Rattle.ftn_tree.specs.declared.piece.Spot.{Spot}
use Rattle.ftn_tree.specs.declared.token.TokenKind.TheVariants as tokens
use Rattle.ftn_tree.specs.Breaks.{Among, Breach, breaches_from, breaches_of, end_breaches, line_breaches, long_line, only_if, piece_breaches, wrong_bytes}
use Rattle.ftn_tree.specs.Code.{goes_on, is_outside, is_wrong, quote_after}
use Rattle.ftn_tree.specs.Lines.{Line, code_lines, indent, is_comment, is_line_feed, lines_of, placed, without_return}
use Rattle.ftn_tree.specs.Logical.{Carried, Glyph, byte, gap, cut, after_line, count_at, glyph, glyphs, joins, is_carried, line_glyphs, open_at, row_from, row_of, said, skipped, stands_alone, text_of, text_glyphs}
use Rattle.ftn_tree.specs.Pieces.{Piece, pieces_of}
use Rattle.ftn_tree.specs.Reading.{each_piece, over_cells, over_run, runs_of}
use Rattle.ftn_tree.proofs.LineLaws.{text_by, shorter, span, span_of_text}
use Rattle.free_scan.specs.steps.Firsts.{IsFirstOf}
use Rattle.free_scan.specs.steps.RowsLeft.{wrongs_left}
use Rattle.free_scan.proofs.FirstsLaws.{among_either}
use Rattle.free_scan.proofs.RowsLaws.{wrongs_of_runs}

-- none stands further on
abbrev pub AllBy : ℕ → List Breach → Type 0
AllBy n breaches = (breach : Breach) → Among breach breaches → breach.0 ≤ n

all_both : (n : ℕ) (xs ys : List Breach) → AllBy n xs → AllBy n ys → AllBy n (xs ++ ys)
all_both n xs ys left right breach is = by (among_either breach xs ys is)
  where
    by : Among breach xs ⊎ Among breach ys → breach.0 ≤ n
    by (inl one) = left breach one
    by (inr one) = right breach one

all_none : (n : ℕ) → AllBy n []
all_none n breach is = absurd is

all_one : (n at : ℕ) (kind : FaultKind) → at ≤ n → AllBy n ((at, kind) ∷ [])
all_one n at kind up breach (inl is) = rw is up
all_one n at kind up breach (inr is) = absurd is

all_if : (n at : ℕ) (kind : FaultKind) (b : Bool) → at ≤ n → AllBy n (only_if b (at, kind))
all_if n at kind true up = all_one n at kind up
all_if n at kind false up = all_none n

all_if_so : (n at : ℕ) (kind : FaultKind) (b : Bool) → (b ≡ true → at ≤ n) → AllBy n (only_if b (at, kind))
all_if_so n at kind true up = all_one n at kind (up refl)
all_if_so n at kind false up = all_none n

-- lines end within the text
abbrev pub AreWithin : ℕ → List Line → Type 0
AreWithin n [] = ⊤
AreWithin n (line ∷ lines) = (line.at + length line.body ≤ n) × AreWithin n lines

span_first : (b : ℕ) (pieces : List (List ℕ)) → span (onto_first b pieces) ≤ 2 + span pieces
span_first b [] = omega arith
span_first b (piece ∷ pieces) = omega arith

placed_within : (n number at : ℕ) (pieces : List (List ℕ)) → at + span pieces ≤ n + 1 → AreWithin n (placed number at pieces)
placed_within n number at [] fits = tt
placed_within n number at (last ∷ []) fits = (omega arith, tt)
placed_within n number at (piece ∷ next ∷ pieces) fits =
    let less : length (without_return piece) ≤ length piece = shorter piece in
    (omega arith, placed_within n (number + 1) (at + length piece + 1) (next ∷ pieces) (omega arith))

lines_within : (text : List ℕ) → AreWithin (length text) (lines_of text)
lines_within text = placed_within (length text) 1 0 (slice_split is_line_feed text) (omega (arith, span_of_text text))

code_within : (n : ℕ) (lines : List Line) → AreWithin n lines → AreWithin n (filter (λ line. not (is_comment line.body)) lines)
code_within n [] fits = tt
code_within n (line ∷ lines) fits =
    cond_both (not (is_comment line.body)) _ _ (AreWithin n) (λ e. (fits.0, code_within n lines fits.1)) (λ e. code_within n lines fits.1)

long_up : (n at size : ℕ) → at + size ≤ n → nat_lt line_limit size ≡ true → at + line_limit ≤ n
long_up n at size fits is = let less : line_limit < size = grind (arith, nat_tests) in omega arith

long_by : (n : ℕ) (lines : List Line) → AreWithin n lines → AllBy n (flat_map long_line lines)
long_by n [] fits = all_none n
long_by n (line ∷ lines) fits =
    rw (flat_map-cons long_line line lines)
    (all_both n (long_line line) (flat_map long_line lines)
    (all_if_so n (line.at + line_limit) kinds.LongLine (nat_lt line_limit (length line.body)) (long_up n line.at (length line.body) fits.0))
    (long_by n lines fits.1))

wrong_by : (n : ℕ) (within : Option ℕ) (at : ℕ) (bytes : List ℕ) → at + length bytes ≤ n → AllBy n (wrong_bytes within at bytes)
wrong_by n within at [] fits = all_none n
wrong_by n within at (b ∷ bytes) fits =
    all_both n (only_if (is_wrong within b) (at, kinds.BadByte)) (wrong_bytes (quote_after within b) (at + 1) bytes)
    (all_if n at kinds.BadByte (is_wrong within b) (omega arith)) (wrong_by n (quote_after within b) (at + 1) bytes (omega arith))

indent_by : (body : List ℕ) → indent body ≤ length body
indent_by body = prefix_len-le-length is_blank body

left_true : (a b : Bool) → a && b ≡ true → a ≡ true
left_true true b is = refl
left_true false b is = is

right_true : (a b : Bool) → a && b ≡ true → b ≡ true
right_true true b is = is
right_true false b is = absurd (cc)

abbrev pub IsMarkBy : ℕ → Option Carried → Type 0
IsMarkBy n None = ⊤
IsMarkBy n (Some carried) = carried.mark ≤ n

end_by : (n : ℕ) (before : Option Carried) → IsMarkBy n before → AllBy n (end_breaches before)
end_by n None up = all_none n
end_by n (Some carried) up = all_if n carried.mark kinds.LoneAmpersand (is_outside carried.within) up

after_by : (n : ℕ) (before : Option Carried) (line : Line) → line.at + length line.body ≤ n → IsMarkBy n (after_line before line)
after_by n before line fits =
    let text : skipped before line.body + length (text_of before line.body) ≤ length line.body = text_by before line.body in
    cond_both (goes_on (said before line.body)) _ _ (IsMarkBy n) (λ e. omega arith) (λ e. tt)

line_by : (n : ℕ) (edition : Edition) (before : Option Carried) (line : Line) → line.at + length line.body ≤ n → AllBy n (line_breaches edition before line)
line_by n edition before line fits =
    let text : skipped before line.body + length (text_of before line.body) ≤ length line.body = text_by before line.body in
    let blanks : indent line.body ≤ length line.body = indent_by line.body in
    all_both n
    (only_if (count_at before == continuation_limit edition + 1) (line.at, kinds.ManyContinuations) ++ only_if (stands_alone before line.body) (line.at + indent line.body, kinds.LoneAmpersand))
    (wrong_bytes (open_at before line.body) (line.at + skipped before line.body) (text_of before line.body))
    (all_both n
    (only_if (count_at before == continuation_limit edition + 1) (line.at, kinds.ManyContinuations))
    (only_if (stands_alone before line.body) (line.at + indent line.body, kinds.LoneAmpersand))
    (all_if n line.at kinds.ManyContinuations (count_at before == continuation_limit edition + 1) (omega arith))
    (all_if n (line.at + indent line.body) kinds.LoneAmpersand (stands_alone before line.body) (omega arith)))
    (wrong_by n (open_at before line.body) (line.at + skipped before line.body) (text_of before line.body) (omega arith))

code_breaches_by : (n : ℕ) (edition : Edition) (before : Option Carried) (lines : List Line) → IsMarkBy n before → AreWithin n lines → AllBy n (breaches_from edition before lines)
code_breaches_by n edition before [] mark fits = end_by n before mark
code_breaches_by n edition before (line ∷ lines) mark fits =
    all_both n (line_breaches edition before line) (breaches_from edition (after_line before line) lines)
    (line_by n edition before line fits.0) (code_breaches_by n edition (after_line before line) lines (after_by n before line fits.0) fits.1)

-- the bytes of a row stand within the text
abbrev pub RowBy : ℕ → List Glyph → Type 0
RowBy n [] = ⊤
RowBy n (byte b spot ∷ row) = (spot.at ≤ n) × RowBy n row
RowBy n (gap ∷ row) = RowBy n row
RowBy n (cut ∷ row) = RowBy n row

row_both : (n : ℕ) (xs ys : List Glyph) → RowBy n xs → RowBy n ys → RowBy n (xs ++ ys)
row_both n [] ys left right = right
row_both n (byte b spot ∷ xs) ys left right = (left.0, row_both n xs ys left.1 right)
row_both n (gap ∷ xs) ys left right = row_both n xs ys left right
row_both n (cut ∷ xs) ys left right = row_both n xs ys left right

row_first : (n : ℕ) (within : Option ℕ) (spot : Spot) (b : ℕ) (row : List Glyph) → spot.at ≤ n → RowBy n row → RowBy n (glyph within spot b ∷ row)
row_first n within spot b row up more =
    cond_both (is_outside within && b == 59) _ _ (λ g. RowBy n (g ∷ row)) (λ e. more)
    (λ e. cond_both (is_outside within && is_wrong within b) _ _ (λ g. RowBy n (g ∷ row)) (λ f. (up, more)) (λ f. (up, more)))

glyphs_by : (n : ℕ) (within : Option ℕ) (line at : ℕ) (bytes : List ℕ) → at + length bytes ≤ n → RowBy n (glyphs within line at bytes)
glyphs_by n within line at [] fits = tt
glyphs_by n within line at (b ∷ bytes) fits =
    row_first n within (record { at = at; line = line }) b (glyphs (quote_after within b) line (at + 1) bytes) (omega arith) (glyphs_by n (quote_after within b) line (at + 1) bytes (omega arith))

line_row_by : (n : ℕ) (before : Option Carried) (line : Line) → line.at + length line.body ≤ n → RowBy n (line_glyphs before line)
line_row_by n before line fits =
    let text : skipped before line.body + length (text_of before line.body) ≤ length line.body = text_by before line.body in
    row_both n ((if is_carried before && not (joins before line.body) then gap ∷ [] else []) ++ text_glyphs before line) (if goes_on (said before line.body) then [] else cut ∷ [])
    (row_both n (if is_carried before && not (joins before line.body) then gap ∷ [] else []) (text_glyphs before line)
    (cond_both (is_carried before && not (joins before line.body)) _ _ (RowBy n) (λ e. tt) (λ e. tt))
    (glyphs_by n (open_at before line.body) line.number (line.at + skipped before line.body) (text_of before line.body) (omega arith)))
    (cond_both (goes_on (said before line.body)) _ _ (RowBy n) (λ e. tt) (λ e. tt))

row_by : (n : ℕ) (before : Option Carried) (lines : List Line) → AreWithin n lines → RowBy n (row_from before lines)
row_by n before [] fits = tt
row_by n before (line ∷ lines) fits = row_both n (line_glyphs before line) (row_from (after_line before line) lines) (line_row_by n before line fits.0) (row_by n (after_line before line) lines fits.1)

abbrev pub SpotsBy : ℕ → List Spot → Type 0
SpotsBy n [] = ⊤
SpotsBy n (spot ∷ spots) = (spot.at ≤ n) × SpotsBy n spots

spots_push : (n : ℕ) (spots : List Spot) (spot : Spot) → SpotsBy n spots → spot.at ≤ n → SpotsBy n (spots ++ spot ∷ [])
spots_push n [] spot are up = (up, tt)
spots_push n (first ∷ spots) spot are up = (are.0, spots_push n spots spot are.1 up)

spots_take : (n k : ℕ) (spots : List Spot) → SpotsBy n spots → SpotsBy n (take k spots)
spots_take n zero spots are = tt
spots_take n (suc k) [] are = tt
spots_take n (suc k) (spot ∷ spots) are = (are.0, spots_take n k spots are.1)

spots_drop : (n k : ℕ) (spots : List Spot) → SpotsBy n spots → SpotsBy n (drop k spots)
spots_drop n zero spots are = are
spots_drop n (suc k) [] are = tt
spots_drop n (suc k) (spot ∷ spots) are = spots_drop n k spots are.1

piece_by : (n : ℕ) (edition : Edition) (kind : PieceKind) (bytes : List ℕ) (spots : List Spot) → SpotsBy n spots → AllBy n (piece_breaches edition kind bytes spots)
piece_by n edition kind bytes [] are = all_none n
piece_by n edition pieces.Blank bytes (spot ∷ spots) are = all_none n
piece_by n edition pieces.Stray bytes (spot ∷ spots) are = all_one n spot.at kinds.BadByte are.0
piece_by n edition pieces.Unclosed bytes (spot ∷ spots) are = all_one n spot.at kinds.OpenText are.0
piece_by n edition (pieces.Token tokens.Word) bytes (spot ∷ spots) are = all_if n spot.at kinds.LongName _ are.0
piece_by n edition (pieces.Token tokens.Whole) bytes (spot ∷ spots) are = all_if n spot.at kinds.BigNumber _ are.0
piece_by n edition (pieces.Token tokens.RealForm) bytes (spot ∷ spots) are = all_none n
piece_by n edition (pieces.Token tokens.Quoted) bytes (spot ∷ spots) are = all_none n
piece_by n edition (pieces.Token tokens.Dotted) bytes (spot ∷ spots) are = all_none n
piece_by n edition (pieces.Token tokens.Mark) bytes (spot ∷ spots) are = all_none n

pieces_by : (n : ℕ) (edition : Edition) (bytes : List ℕ) (spots : List Spot) (ps : List Piece) → SpotsBy n spots → AllBy n (each_piece (piece_breaches edition) bytes spots ps)
pieces_by n edition bytes spots [] are = all_none n
pieces_by n edition bytes spots (piece ∷ ps) are =
    all_both n (piece_breaches edition piece.0 (take piece.1 bytes) (take piece.1 spots)) (each_piece (piece_breaches edition) (drop piece.1 bytes) (drop piece.1 spots) ps)
    (piece_by n edition piece.0 (take piece.1 bytes) (take piece.1 spots) (spots_take n piece.1 spots are))
    (pieces_by n edition (drop piece.1 bytes) (drop piece.1 spots) ps (spots_drop n piece.1 spots are))

wrongs_by : (n : ℕ) (edition : Edition) (bytes : List ℕ) (spots : List Spot) (row : List Glyph) → SpotsBy n spots → RowBy n row → AllBy n (wrongs_left edition bytes spots row)
wrongs_by n edition bytes spots [] are fits = pieces_by n edition bytes spots (pieces_of bytes) are
wrongs_by n edition bytes spots (byte b spot ∷ row) are fits = wrongs_by n edition (bytes ++ b ∷ []) (spots ++ spot ∷ []) row (spots_push n spots spot are fits.0) fits.1
wrongs_by n edition bytes spots (gap ∷ row) are fits =
    all_both n (over_run (piece_breaches edition) bytes spots) (wrongs_left edition [] [] row) (pieces_by n edition bytes spots (pieces_of bytes) are) (wrongs_by n edition [] [] row tt fits)
wrongs_by n edition bytes spots (cut ∷ row) are fits =
    all_both n (over_run (piece_breaches edition) bytes spots) (wrongs_left edition [] [] row) (pieces_by n edition bytes spots (pieces_of bytes) are) (wrongs_by n edition [] [] row tt fits)

-- no rule is broken past the end
pub breaches_by : (edition : Edition) (text : List ℕ) → AllBy (length text) (breaches_of edition text)
breaches_by edition text =
    let code : AreWithin (length text) (code_lines text) = code_within (length text) (lines_of text) (lines_within text) in
    all_both (length text) (flat_map long_line (lines_of text) ++ breaches_from edition None (code_lines text)) (flat_map (over_cells (piece_breaches edition)) (runs_of (row_of text)))
    (all_both (length text) (flat_map long_line (lines_of text)) (breaches_from edition None (code_lines text))
    (long_by (length text) (lines_of text) (lines_within text))
    (code_breaches_by (length text) edition None (code_lines text) tt code))
    (rw (← wrongs_of_runs edition [] (row_of text)) (wrongs_by (length text) edition [] [] (row_of text) tt (row_by (length text) None (code_lines text) code)))

-- the first breach stands within the text
pub first_by : (edition : Edition) (text : List ℕ) (found : Option Breach) (breach : Breach) → found ≡ Some breach → IsFirstOf found (breaches_of edition text) → breach.0 ≤ length text
first_by edition text None breach is first = absurd (cc)
first_by edition text (Some other) breach is first =
    let same : other ≡ breach = cc in
    rw (← same) (breaches_by edition text other first.among)
