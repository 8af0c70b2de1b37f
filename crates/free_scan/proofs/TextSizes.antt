-- A text has no more statements than bytes, and no more tokens; neither has its tree.
use Rattle.std.proofs.Common.{◌≡◌, ℕ, suc, ◌+◌, ◌≤◌, Bool, true, false, cond, List, [], ◌∷◌, ◌++◌, length, take, drop, Option, None, refl, ap, arith}
use Rattle.std.specs.Prelude.{◌&&◌, ◌==◌, ◌-◌, min, not}
use Rattle.std.specs.List.{ends_with, filter, onto_first, slice_split, sum_by}
use Rattle.std.proofs.lemmas.Bool.{cond_both}
use Rattle.std.proofs.lemmas.List.{length-drop, length-take}
use Rattle.std.proofs.lemmas.List.Sums.{sum_by-cons}
use Rattle.ftn_base.specs.declared.name.Edition.{Edition}
use Rattle.ftn_base.specs.declared.place.Range.{Range}
use Rattle.ftn_tree.specs.Code.{before_mark, code_len, goes_on, is_outside, is_wrong, quote_after, stem_len}
use Rattle.ftn_tree.specs.Lines.{Line, code_lines, is_comment, is_line_feed, lines_of, line_starts, placed, without_return}
use Rattle.ftn_tree.specs.Logical.{Carried, Glyph, byte, gap, cut, after_line, glyph, glyphs, is_carried, joins, line_glyphs, open_at, row_from, row_of, said, skipped, text_glyphs, text_of}
use Rattle.ftn_tree.specs.Reading.{tokens_of}
use Rattle.ftn_tree.specs.declared.piece.Spot.{Spot}
use Rattle.ftn_tree.specs.declared.token.Tokens.{Tokens}
use Rattle.ftn_tree.specs.declared.unit.FileTree.{FileTree}
use Rattle.ftn_tree.specs.declared.unit.Statement.{Statement}
use Rattle.ftn_tree.specs.FileFaults.{AreRead, IsTreeOf}
use Rattle.free_scan.specs.steps.Scanning.{State, IsWithin, begun, finished, flushed, pushed, taken_all}
use Rattle.free_scan.proofs.ScanLaws.{within_finished, within_flushed, within_more, within_pushed}
use Rattle.free_scan.proofs.WholeText.{few_statements, scanned, whole_tokens}

-- ---- bytes of a row

abbrev bytes_in : List Glyph → ℕ
bytes_in [] = 0
bytes_in (byte b spot ∷ row) = suc (bytes_in row)
bytes_in (gap ∷ row) = bytes_in row
bytes_in (cut ∷ row) = bytes_in row

joined_bytes : (one other : List Glyph) → bytes_in (one ++ other) ≡ bytes_in one + bytes_in other
joined_bytes [] other = omega arith
joined_bytes (byte b spot ∷ one) other = omega (arith, joined_bytes one other)
joined_bytes (gap ∷ one) other = joined_bytes one other
joined_bytes (cut ∷ one) other = joined_bytes one other

within_row : (n : ℕ) (s : State) (row : List Glyph) → IsWithin n s → IsWithin (n + bytes_in row) (taken_all s row)
within_row n s [] is = within_more n (n + 0) s (omega arith) is
within_row n s (byte b spot ∷ row) is =
    within_more (n + 1 + bytes_in row) (n + suc (bytes_in row)) (taken_all (pushed b spot s) row) (omega arith) (within_row (n + 1) (pushed b spot s) row (within_pushed n b s spot is))
within_row n s (gap ∷ row) is = within_row n (flushed s) row (within_flushed n s is)
within_row n s (cut ∷ row) is = within_row n (finished s) row (within_finished n s is)

glyph_bytes : (quote : Option ℕ) (spot : Spot) (b : ℕ) (rest : List Glyph) (n : ℕ) → bytes_in rest ≤ n → bytes_in (glyph quote spot b ∷ rest) ≤ suc n
glyph_bytes quote spot b rest n few =
    cond_both (is_outside quote && b == 59) _ _ (λ (g : Glyph). bytes_in (g ∷ rest) ≤ suc n)
    (λ e. omega (arith, few))
    (λ e. cond_both (is_outside quote && is_wrong quote b) _ _ (λ (g : Glyph). bytes_in (g ∷ rest) ≤ suc n) (λ f. omega (arith, few)) (λ f. omega (arith, few)))

glyphs_bytes : (quote : Option ℕ) (line at : ℕ) (bytes : List ℕ) → bytes_in (glyphs quote line at bytes) ≤ length bytes
glyphs_bytes quote line at [] = omega arith
glyphs_bytes quote line at (b ∷ rest) =
    glyph_bytes quote (record { at = at; line = line }) b (glyphs (quote_after quote b) line (at + 1) rest) (length rest) (glyphs_bytes (quote_after quote b) line (at + 1) rest)

-- ---- lines

shorter_take : (n : ℕ) (bytes : List ℕ) → length (take n bytes) ≤ length bytes
shorter_take n bytes = let is : length (take n bytes) ≡ min n (length bytes) = length-take n bytes in omega (arith, is)

shorter_drop : (n : ℕ) (bytes : List ℕ) → length (drop n bytes) ≤ length bytes
shorter_drop n bytes = let is : length (drop n bytes) ≡ length bytes - n = length-drop n bytes in omega (arith, is)

shorter_mark : (bytes : List ℕ) → length (before_mark bytes) ≤ length bytes
shorter_mark bytes = cond_both (goes_on bytes) _ _ (λ (t : List ℕ). length t ≤ length bytes) (λ e. shorter_take (stem_len bytes - 1) bytes) (λ e. omega arith)

shorter_text : (before : Option Carried) (body : List ℕ) → length (text_of before body) ≤ length body
shorter_text before body =
    let one : length (before_mark (said before body)) ≤ length (said before body) = shorter_mark (said before body) in
    let two : length (said before body) ≤ length (drop (skipped before body) body) = shorter_take (code_len (open_at before body) (drop (skipped before body) body)) (drop (skipped before body) body) in
    let three : length (drop (skipped before body) body) ≤ length body = shorter_drop (skipped before body) body in
    omega (arith, one, two, three)

ended_bytes : (c : Bool) (text : List Glyph) (n : ℕ) → bytes_in text ≤ n → bytes_in (text ++ cond c [] (cut ∷ [])) ≤ n
ended_bytes true text n few = omega (arith, few, joined_bytes text [])
ended_bytes false text n few = omega (arith, few, joined_bytes text (cut ∷ []))

parts_bytes : (b c : Bool) (text : List Glyph) (n : ℕ) → bytes_in text ≤ n → bytes_in (cond b (gap ∷ []) [] ++ text ++ cond c [] (cut ∷ [])) ≤ n
parts_bytes true c text n few = ended_bytes c text n few
parts_bytes false c text n few = ended_bytes c text n few

line_bytes : (before : Option Carried) (line : Line) → bytes_in (line_glyphs before line) ≤ length line.body
line_bytes before line =
    let text : bytes_in (text_glyphs before line) ≤ length (text_of before line.body) = glyphs_bytes (open_at before line.body) line.number (line.at + skipped before line.body) (text_of before line.body) in
    let less : length (text_of before line.body) ≤ length line.body = shorter_text before line.body in
    parts_bytes (is_carried before && not (joins before line.body)) (goes_on (said before line.body)) (text_glyphs before line) (length line.body) (omega (arith, text, less))

abbrev sizes : List Line → ℕ
sizes lines = sum_by (λ (line : Line). length line.body) lines

lines_bytes : (before : Option Carried) (lines : List Line) → bytes_in (row_from before lines) ≤ sizes lines
lines_bytes before [] = omega arith
lines_bytes before (line ∷ lines) =
    let all : bytes_in (line_glyphs before line ++ row_from (after_line before line) lines) ≡ bytes_in (line_glyphs before line) + bytes_in (row_from (after_line before line) lines) = joined_bytes (line_glyphs before line) (row_from (after_line before line) lines) in
    let first : bytes_in (line_glyphs before line) ≤ length line.body = line_bytes before line in
    let more : bytes_in (row_from (after_line before line) lines) ≤ sizes lines = lines_bytes (after_line before line) lines in
    let sum : sizes (line ∷ lines) ≡ length line.body + sizes lines = sum_by-cons (λ (l : Line). length l.body) line lines in
    omega (arith, all, first, more, sum)

fewer_lines : (test : Line → Bool) (lines : List Line) → sizes (filter test lines) ≤ sizes lines
fewer_lines test [] = omega arith
fewer_lines test (line ∷ lines) =
    let more : sizes (filter test lines) ≤ sizes lines = fewer_lines test lines in
    let sum : sizes (line ∷ lines) ≡ length line.body + sizes lines = sum_by-cons (λ (l : Line). length l.body) line lines in
    let kept : sizes (line ∷ filter test lines) ≡ length line.body + sizes (filter test lines) = sum_by-cons (λ (l : Line). length l.body) line (filter test lines) in
    cond_both (test line) _ _ (λ (ls : List Line). sizes ls ≤ sizes (line ∷ lines)) (λ e. omega (arith, more, sum, kept)) (λ e. omega (arith, more, sum))

-- ---- what stands between the ends of lines

abbrev parts : List (List ℕ) → ℕ
parts pieces = sum_by (λ (piece : List ℕ). length piece) pieces

onto_parts : (b : ℕ) (pieces : List (List ℕ)) → parts (onto_first b pieces) ≤ suc (parts pieces)
onto_parts b [] = omega arith
onto_parts b (piece ∷ pieces) =
    let old : parts (piece ∷ pieces) ≡ length piece + parts pieces = sum_by-cons (λ (p : List ℕ). length p) piece pieces in
    let new : parts ((b ∷ piece) ∷ pieces) ≡ suc (length piece) + parts pieces = sum_by-cons (λ (p : List ℕ). length p) (b ∷ piece) pieces in
    omega (arith, old, new)

split_parts : (text : List ℕ) → parts (slice_split is_line_feed text) ≤ length text
split_parts [] = omega arith
split_parts (b ∷ text) =
    let more : parts (slice_split is_line_feed text) ≤ length text = split_parts text in
    let onto : parts (onto_first b (slice_split is_line_feed text)) ≤ suc (parts (slice_split is_line_feed text)) = onto_parts b (slice_split is_line_feed text) in
    let none : parts ([] ∷ slice_split is_line_feed text) ≡ 0 + parts (slice_split is_line_feed text) = sum_by-cons (λ (p : List ℕ). length p) [] (slice_split is_line_feed text) in
    cond_both (is_line_feed b) _ _ (λ (ps : List (List ℕ)). parts ps ≤ suc (length text)) (λ e. omega (arith, more, none)) (λ e. omega (arith, more, onto))

shorter_return : (body : List ℕ) → length (without_return body) ≤ length body
shorter_return body = cond_both (ends_with ◌==◌ body (13 ∷ [])) (take (length body - 1) body) body (λ (t : List ℕ). length t ≤ length body) (λ e. shorter_take (length body - 1) body) (λ e. omega arith)

placed_sizes : (number at : ℕ) (pieces : List (List ℕ)) → sizes (placed number at pieces) ≤ parts pieces
placed_sizes number at [] = omega arith
placed_sizes number at (last ∷ []) = omega arith
placed_sizes number at (piece ∷ next ∷ rest) =
    let more : sizes (placed (number + 1) (at + length piece + 1) (next ∷ rest)) ≤ parts (next ∷ rest) = placed_sizes (number + 1) (at + length piece + 1) (next ∷ rest) in
    let line : length (without_return piece) ≤ length piece = shorter_return piece in
    let all : sizes (record { number = number; at = at; body = without_return piece } ∷ placed (number + 1) (at + length piece + 1) (next ∷ rest))
    ≡ length (without_return piece) + sizes (placed (number + 1) (at + length piece + 1) (next ∷ rest))
    = sum_by-cons (λ (l : Line). length l.body) (record { number = number; at = at; body = without_return piece }) (placed (number + 1) (at + length piece + 1) (next ∷ rest)) in
    let sum : parts (piece ∷ next ∷ rest) ≡ length piece + parts (next ∷ rest) = sum_by-cons (λ (p : List ℕ). length p) piece (next ∷ rest) in
    omega (arith, more, line, all, sum)

row_bytes : (text : List ℕ) → bytes_in (row_of text) ≤ length text
row_bytes text =
    let row : bytes_in (row_of text) ≤ sizes (code_lines text) = lines_bytes None (code_lines text) in
    let code : sizes (code_lines text) ≤ sizes (lines_of text) = fewer_lines (λ (line : Line). not (is_comment line.body)) (lines_of text) in
    let lines : sizes (lines_of text) ≤ parts (slice_split is_line_feed text) = placed_sizes 1 0 (slice_split is_line_feed text) in
    omega (arith, row, code, lines, split_parts text)

-- ---- the statements

begun_within : (edition : Edition) → IsWithin 0 (begun edition)
begun_within edition = omega arith

whole_row : (edition : Edition) (text : List ℕ) → IsWithin (bytes_in (row_of text)) (taken_all (begun edition) (row_of text))
whole_row edition text =
    within_more (0 + bytes_in (row_of text)) (bytes_in (row_of text)) (taken_all (begun edition) (row_of text)) (omega arith)
    (within_row 0 (begun edition) (row_of text) (begun_within edition))

statements_in_bytes : (edition : Edition) (text : List ℕ) → length (tokens_of text).statements ≤ length text
statements_in_bytes edition text =
    let few : length (scanned edition text).statements ≤ bytes_in (row_of text)
    = few_statements (bytes_in (row_of text)) edition text (taken_all (begun edition) (row_of text)) (scanned edition text) (whole_row edition text) refl refl in
    let same = ap (λ t. length t.statements) (whole_tokens edition text (scanned edition text) (line_starts text) refl refl) in
    omega (arith, few, same, row_bytes text)

tokens_in_bytes : (edition : Edition) (text : List ℕ) → length (tokens_of text).items ≤ length text
tokens_in_bytes edition text =
    let few : IsWithin (bytes_in (row_of text)) (scanned edition text)
    = within_finished (bytes_in (row_of text)) (taken_all (begun edition) (row_of text)) (whole_row edition text) in
    let same = ap (λ t. length t.items) (whole_tokens edition text (scanned edition text) (line_starts text) refl refl) in
    omega (arith, few, same, row_bytes text)

-- ---- its tree

read_length : (tokens : Tokens) (ranges : List Range) (statements : List Statement) → AreRead tokens ranges statements → length statements ≡ length ranges
read_length tokens [] [] are = refl
read_length tokens [] (s ∷ statements) are = absurd are
read_length tokens (r ∷ ranges) [] are = absurd are
read_length tokens (r ∷ ranges) (s ∷ statements) are = ap (λ (n : ℕ). suc n) (read_length tokens ranges statements are.1)

pub tree_statements : (edition : Edition) (text : List ℕ) (tree : FileTree) → IsTreeOf edition text tree → length tree.statements ≤ length text
tree_statements edition text tree is =
    let same : length tree.statements ≡ length (tokens_of text).statements = read_length (tokens_of text) (tokens_of text).statements tree.statements is.1.read in
    omega (arith, same, statements_in_bytes edition text)

pub tree_tokens : (edition : Edition) (text : List ℕ) (tree : FileTree) → IsTreeOf edition text tree → length tree.tokens.items ≤ length text
tree_tokens edition text tree is =
    let same : length tree.tokens.items ≡ length (tokens_of text).items = ap (λ (t : Tokens). length t.items) is.1.tokens_are in
    omega (arith, same, tokens_in_bytes edition text)
