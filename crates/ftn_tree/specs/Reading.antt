-- The tokens of a text (Fortran 90, 3.2 and 3.3).
use Rattle.std.specs.Prelude.{ℕ, suc, ◌+◌, Bool, true, false, not, ◌==◌, if◌then◌else◌, List, [], ◌∷◌, ◌++◌, map, fold, length, take, drop}
use Rattle.std.specs.List.{slice_split, flat_map}
use Rattle.ftn_base.specs.Letters.{folded}
use Rattle.ftn_base.specs.declared.place.Range.{Range}
use Rattle.ftn_tree.specs.declared.token.TokenKind.{TokenKind}
use Rattle.ftn_tree.specs.declared.token.TokenKind.TheVariants as tokens
use Rattle.ftn_tree.specs.declared.token.Token.{Token}
use Rattle.ftn_tree.specs.declared.token.Tokens.{Tokens}
use Rattle.ftn_tree.specs.declared.piece.PieceKind.{PieceKind}
use Rattle.ftn_tree.specs.declared.piece.PieceKind.TheVariants as pieces
use Rattle.ftn_tree.specs.declared.piece.Spot.{Spot}
use Rattle.ftn_tree.specs.Lines.{line_starts}
use Rattle.ftn_tree.specs.Pieces.{Piece, pieces_of}
use Rattle.ftn_tree.specs.Logical.{Glyph, byte, gap, cut, is_cut, row_of}

-- what a constant stands for, given its bytes after the opening quote: a doubled quote stands for one
abbrev pub inside : ℕ → List ℕ → List ℕ
inside quote [] = []
inside quote (b ∷ []) = if b == quote then [] else b ∷ []
inside quote (b ∷ c ∷ rest) =
    if not (b == quote) then b ∷ inside quote (c ∷ rest)
    else if c == quote then quote ∷ inside quote rest
    else []

abbrev pub constant_value : List ℕ → List ℕ
constant_value [] = []
constant_value (quote ∷ rest) = inside quote rest

abbrev pub value_of : TokenKind → List ℕ → List ℕ
value_of tokens.Word bytes = folded bytes
value_of tokens.Dotted bytes = folded bytes
value_of tokens.Quoted bytes = constant_value bytes
value_of tokens.Whole bytes = bytes
value_of tokens.RealForm bytes = bytes
value_of tokens.Mark bytes = bytes

-- a byte and where it stands
abbrev pub Cell : Type 0
Cell = ℕ × Spot

-- the bytes between two gaps or cuts
abbrev pub cell_of : Glyph → List Cell
cell_of (byte b spot) = (b, spot) ∷ []
cell_of gap = []
cell_of cut = []

abbrev pub is_gap : Glyph → Bool
is_gap (byte b spot) = false
is_gap gap = true
is_gap cut = true

abbrev pub runs_of : List Glyph → List (List Cell)
runs_of row = map (flat_map cell_of) (slice_split is_gap row)

abbrev pub last_of : Spot → List Spot → Spot
last_of first spots = fold (λ last spot. spot) first spots

-- a token of those bytes, which stand there
abbrev pub token : TokenKind → List ℕ → Spot → List Spot → Token
token kind bytes first spots = record {
  kind = kind;
  range = record { start = first.at; end = (last_of first spots).at + 1 };
  line = first.line;
  split = not ((last_of first spots).at == first.at + length spots);
  value = value_of kind bytes;
}

abbrev pub token_of : PieceKind → List ℕ → List Spot → List Token
token_of kind bytes [] = []
token_of pieces.Blank bytes (first ∷ spots) = []
token_of pieces.Stray bytes (first ∷ spots) = []
token_of pieces.Unclosed bytes (first ∷ spots) = []
token_of (pieces.Token kind) bytes (first ∷ spots) = token kind bytes first spots ∷ []

-- what each piece of a run gives
abbrev pub each_piece : {A : Type 0} → (PieceKind → List ℕ → List Spot → List A) → List ℕ → List Spot → List Piece → List A
each_piece gives bytes spots [] = []
each_piece gives bytes spots (piece ∷ rest) =
    gives piece.0 (take piece.1 bytes) (take piece.1 spots)
    ++ each_piece gives (drop piece.1 bytes) (drop piece.1 spots) rest

abbrev pub over_run : {A : Type 0} → (PieceKind → List ℕ → List Spot → List A) → List ℕ → List Spot → List A
over_run gives bytes spots = each_piece gives bytes spots (pieces_of bytes)

abbrev pub over_cells : {A : Type 0} → (PieceKind → List ℕ → List Spot → List A) → List Cell → List A
over_cells gives cells = over_run gives (map (λ cell. cell.0) cells) (map (λ cell. cell.1) cells)

-- the tokens of a statement
abbrev pub statement_tokens : List Glyph → List Token
statement_tokens row = flat_map (over_cells token_of) (runs_of row)

-- the tokens of each statement
abbrev pub rows_of : List ℕ → List (List Token)
rows_of text = map statement_tokens (slice_split is_cut (row_of text))

abbrev pub range_if_some : ℕ → List Token → List Range
range_if_some first [] = []
range_if_some first (token ∷ more) = record { start = first; end = first + suc (length more) } ∷ []

-- the numbers of the tokens of each statement that has some
abbrev pub ranges_from : ℕ → List (List Token) → List Range
ranges_from first [] = []
ranges_from first (row ∷ rows) = range_if_some first row ++ ranges_from (first + length row) rows

abbrev pub tokens_of : List ℕ → Tokens
tokens_of text = record {
  items = flat_map (λ row. row) (rows_of text);
  statements = ranges_from 0 (rows_of text);
  line_starts = line_starts text;
}
