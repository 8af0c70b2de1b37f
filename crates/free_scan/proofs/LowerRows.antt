-- The words of a text's tokens are in lower case.
use Rattle.std.proofs.Common.{◌≡◌, ℕ, ◌+◌, Bool, true, false, cond, List, [], ◌∷◌, map, filter, Option, Some, None, subst, ◌∙◌}
use Rattle.std.specs.List.{AllByRecursion}
use Rattle.std.specs.Prelude.{take, drop}
use Rattle.std.specs.Option.{option_map}
use Rattle.std.specs.Str.{bytes_eq}
use Rattle.std.proofs.lemmas.Slice.Eq.{bytes_eq-Decides}
use Rattle.ftn_base.specs.Letters.{folded}
use Rattle.ftn_base.proofs.NameLemmas.{folded_twice}
use Rattle.std.specs.List.{onto_first}
use Rattle.free_scan.specs.Pieces.{Piece, pieces_of}
use Rattle.free_scan.specs.Spelling.{Lexeme, word, whole, mark, lexeme_of, lexeme_rows, is_some_row, token_lines, rows_of}
use Rattle.free_scan.specs.Tokens.{is_line_end, is_kept, keep_if, line_after, placed_piece, placed_pieces_from, placed_pieces_of}
use Rattle.free_scan.specs.declared.first_form.token.PieceKind.{PieceKind}
use Rattle.free_scan.specs.declared.first_form.token.PieceKind.TheVariants.{Blank, Comment, LineEnd, Word, Whole, Mark}
use Rattle.free_scan.specs.declared.first_form.token.PlacedPiece.{PlacedPiece}

abbrev pub IsLower : Lexeme → Type 0
IsLower (word name) = bytes_eq (folded name) name ≡ true
IsLower (whole n) = Unit {0}
IsLower (mark text) = Unit {0}

abbrev TokenIsLower : PlacedPiece → Type 0
TokenIsLower made = IsLower (lexeme_of made)

token_lower : (at line : ℕ) (kind : PieceKind) (text : List ℕ) (size : ℕ) → TokenIsLower (placed_piece at line kind text size)
token_lower at line Word text size = (bytes_eq-Decides (folded (folded (take size text))) (folded (take size text))).1 (folded_twice (take size text))
token_lower at line Whole text size = tt
token_lower at line Blank text size = tt
token_lower at line Comment text size = tt
token_lower at line LineEnd text size = tt
token_lower at line Mark text size = tt

keep_all : {A : Type 0} (P : A → Type 0) (b : Bool) (x : A) (xs : List A) → P x → AllByRecursion P xs → AllByRecursion P (keep_if b x xs)
keep_all P true x xs p ps = (p, ps)
keep_all P false x xs p ps = ps

tokens_lower : (at line : ℕ) (text : List ℕ) (pieces : List Piece) → AllByRecursion TokenIsLower (placed_pieces_from at line text pieces)
tokens_lower at line text [] = tt
tokens_lower at line text (piece ∷ pieces) =
    keep_all TokenIsLower (is_kept piece.0) (placed_piece at line piece.0 text piece.1) _ (token_lower at line piece.0 text piece.1)
    (tokens_lower (at + piece.1) (line_after line piece.0) (drop piece.1 text) pieces)

module _ {A : Type 0} (P : A → Type 0) where
  abbrev Each : List (List A) → Type 0
  Each rows = AllByRecursion (λ row. AllByRecursion P row) rows

  onto_all : (x : A) (rows : List (List A)) → P x → Each rows → Each (onto_first x rows)
  onto_all x [] p ps = ((p, tt), tt)
  onto_all x (row ∷ rows) p ps = ((p, ps.0), ps.1)

  pick_all : (b : Bool) (row : List A) (rows : List (List A)) → AllByRecursion P row → Each rows → Each (cond b (row ∷ rows) rows)
  pick_all true row rows p ps = (p, ps)
  pick_all false row rows p ps = ps

  filter_all : (rows : List (List A)) → Each rows → Each (filter is_some_row rows)
  filter_all [] ps = tt
  filter_all (row ∷ rows) ps = pick_all (is_some_row row) row (filter is_some_row rows) ps.0 (filter_all rows ps.1)

line_all : (b : Bool) (x : PlacedPiece) (rows : List (List PlacedPiece)) → TokenIsLower x → Each TokenIsLower rows → Each TokenIsLower (cond b ([] ∷ rows) (onto_first x rows))
line_all true x rows p ps = (tt, ps)
line_all false x rows p ps = onto_all TokenIsLower x rows p ps

lines_lower : (tokens : List PlacedPiece) → AllByRecursion TokenIsLower tokens → Each TokenIsLower (token_lines tokens)
lines_lower [] ps = tt
lines_lower (x ∷ tokens) ps = line_all (is_line_end x.kind) x (token_lines tokens) ps.0 (lines_lower tokens ps.1)

row_lower : (row : List PlacedPiece) → AllByRecursion TokenIsLower row → AllByRecursion IsLower (map lexeme_of row)
row_lower [] ps = tt
row_lower (x ∷ row) ps = (ps.0, row_lower row ps.1)

mapped_lower : (rows : List (List PlacedPiece)) → Each TokenIsLower rows → Each IsLower (map (map lexeme_of) rows)
mapped_lower [] ps = tt
mapped_lower (row ∷ rows) ps = (row_lower row ps.0, mapped_lower rows ps.1)

rows_lower : (tokens : List PlacedPiece) → AllByRecursion TokenIsLower tokens → Each IsLower (lexeme_rows tokens)
rows_lower tokens ps = mapped_lower (rows_of tokens) (filter_all TokenIsLower (token_lines tokens) (lines_lower tokens ps))

text_lower : (text : List ℕ) (pieces : Option (List Piece)) (rows : List (List Lexeme)) → option_map lexeme_rows (option_map (placed_pieces_from 0 1 text) pieces) ≡ Some rows → Each IsLower rows
text_lower text None rows e = absurd cc
text_lower text (Some pieces) rows e =
    let is : lexeme_rows (placed_pieces_from 0 1 text pieces) ≡ rows = cc in
    subst (λ found. Each IsLower found) is (rows_lower (placed_pieces_from 0 1 text pieces) (tokens_lower 0 1 text pieces))

pub text_is_lower : (text : List ℕ) (rows : List (List Lexeme)) → option_map lexeme_rows (placed_pieces_of text) ≡ Some rows → AllByRecursion (λ row. AllByRecursion IsLower row) rows
text_is_lower text rows e = text_lower text (pieces_of text) rows e
