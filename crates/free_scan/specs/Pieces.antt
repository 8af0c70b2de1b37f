-- Pieces of a text in first form: blanks, comments, ends of lines and tokens, each as long as possible
-- (Fortran 90, 3.2 and 3.3.1).
use Rattle.std.specs.Prelude.{◌≡◌, ℕ, zero, suc, ◌+◌, not, ◌==◌, if◌then◌else◌, List, [], ◌∷◌, length, drop, Option, Some, None}
use Rattle.std.specs.List.{prefix_len}
use Rattle.std.specs.Option.{option_map, option_and_then}
use Rattle.ftn_base.specs.Letters.{is_letter, is_digit, is_name_byte}
use Rattle.ftn_tree.specs.Lines.{is_line_feed}
use Rattle.ftn_tree.specs.Pieces.{is_mark, is_pair}
use Rattle.free_scan.specs.declared.first_form.token.PieceKind.{PieceKind}
use Rattle.free_scan.specs.declared.first_form.token.PieceKind.TheVariants.{Blank, Comment, LineEnd, Word, Whole, Mark}

-- what a piece is, and how many bytes it has
abbrev pub Piece : Type 0
Piece = PieceKind × ℕ

abbrev pub mark_at : ℕ → List ℕ → Option Piece
mark_at a [] = if is_mark a then Some (Mark, 1) else None
mark_at a (b ∷ rest) = if is_pair a b then Some (Mark, 2) else if is_mark a then Some (Mark, 1) else None

-- the piece at the front of a text
abbrev pub front : List ℕ → Option Piece
front [] = None
front (b ∷ rest) =
    if is_line_feed b then Some (LineEnd, 1)
    else if b == 32 then Some (Blank, 1)
    else if b == 33 then Some (Comment, 1 + prefix_len (λ c. not (is_line_feed c)) rest)
    else if is_letter b then Some (Word, 1 + prefix_len is_name_byte rest)
    else if is_digit b then Some (Whole, 1 + prefix_len is_digit rest)
    else mark_at b rest

-- the pieces of a text, none left out
abbrev pub ArePieces : List ℕ → List Piece → Type 0
ArePieces text [] = text ≡ []
ArePieces text (piece ∷ pieces) = (front text ≡ Some piece) × ArePieces (drop piece.1 text) pieces

-- the same as a computation: the pieces of a text of at most that many bytes
abbrev pub pieces_within : ℕ → List ℕ → Option (List Piece)
pieces_within n [] = Some []
pieces_within zero (b ∷ rest) = None
pieces_within (suc n) (b ∷ rest) =
    option_and_then (λ piece. option_map (λ pieces. piece ∷ pieces) (pieces_within n (drop piece.1 (b ∷ rest)))) (front (b ∷ rest))

abbrev pub pieces_of : List ℕ → Option (List Piece)
pieces_of text = pieces_within (length text) text
