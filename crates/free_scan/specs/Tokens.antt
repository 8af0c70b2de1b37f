-- The tokens of a text in first form, by its pieces that are no blank and no comment.
use Rattle.std.specs.Prelude.{ℕ, ◌+◌, Bool, true, false, List, [], ◌∷◌, take, drop, Option, Some, None}
use Rattle.std.specs.List.{filter_map}
use Rattle.std.specs.Option.{option_map}
use Rattle.ftn_base.specs.Letters.{folded}
use Rattle.ftn_tree.specs.declared.token.Token.{Token}
use Rattle.ftn_tree.specs.declared.token.TokenKind.{TokenKind}
use Rattle.ftn_tree.specs.declared.token.TokenKind.TheVariants as tokens
use Rattle.free_scan.specs.declared.first_form.token.PieceKind.{PieceKind}
use Rattle.free_scan.specs.declared.first_form.token.PieceKind.TheVariants.{Blank, Comment, LineEnd, Word, Whole, Mark}
use Rattle.free_scan.specs.declared.first_form.token.PlacedPiece.{PlacedPiece}
use Rattle.free_scan.specs.Pieces.{Piece, pieces_of}

-- a word in lower case, or else the piece's bytes
abbrev pub value_of : PieceKind → List ℕ → List ℕ
value_of Word bytes = folded bytes
value_of Blank bytes = bytes
value_of Comment bytes = bytes
value_of LineEnd bytes = bytes
value_of Whole bytes = bytes
value_of Mark bytes = bytes

-- tokens and the ends of lines
abbrev pub is_kept : PieceKind → Bool
is_kept Blank = false
is_kept Comment = false
is_kept LineEnd = true
is_kept Word = true
is_kept Whole = true
is_kept Mark = true

abbrev pub is_line_end : PieceKind → Bool
is_line_end LineEnd = true
is_line_end Blank = false
is_line_end Comment = false
is_line_end Word = false
is_line_end Whole = false
is_line_end Mark = false

-- the line after a piece that begins on this one
abbrev pub line_after : ℕ → PieceKind → ℕ
line_after line LineEnd = line + 1
line_after line Blank = line
line_after line Comment = line
line_after line Word = line
line_after line Whole = line
line_after line Mark = line

abbrev pub placed_piece : ℕ → ℕ → PieceKind → List ℕ → ℕ → PlacedPiece
placed_piece at line kind text size = record { kind = kind; range = record { start = at; end = at + size }; line = line; value = value_of kind (take size text) }

abbrev pub keep_if : {X : Type 0} → Bool → X → List X → List X
keep_if true x xs = x ∷ xs
keep_if false x xs = xs

-- the tokens and ends of lines of a text that begins at that offset and on that line, given its pieces
abbrev pub placed_pieces_from : ℕ → ℕ → List ℕ → List Piece → List PlacedPiece
placed_pieces_from at line text [] = []
placed_pieces_from at line text (piece ∷ pieces) =
    keep_if (is_kept piece.0) (placed_piece at line piece.0 text piece.1)
    (placed_pieces_from (at + piece.1) (line_after line piece.0) (drop piece.1 text) pieces)

abbrev pub placed_pieces_of : List ℕ → Option (List PlacedPiece)
placed_pieces_of text = option_map (placed_pieces_from 0 1 text) (pieces_of text)

-- which token a piece of that kind is, if it is one
abbrev pub token_kind : PieceKind → Option TokenKind
token_kind Word = Some tokens.Word
token_kind Whole = Some tokens.Whole
token_kind Mark = Some tokens.Mark
token_kind Blank = None
token_kind Comment = None
token_kind LineEnd = None

-- In first form no continuation stands within a token.
abbrev pub as_token : PlacedPiece → TokenKind → Token
as_token piece kind = record { kind = kind; range = piece.range; line = piece.line; split = false; value = piece.value }

-- the token that the piece is, if it is one
abbrev pub token_of : PlacedPiece → Option Token
token_of piece = option_map (as_token piece) (token_kind piece.kind)

abbrev pub tokens_among : List PlacedPiece → List Token
tokens_among pieces = filter_map token_of pieces

abbrev pub tokens_of : List ℕ → Option (List Token)
tokens_of text = option_map tokens_among (placed_pieces_of text)
