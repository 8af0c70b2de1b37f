-- Pieces of a text without continuations, each as long as possible (Fortran 90, 3.2, 4.3).
use Rattle.std.specs.Prelude.{◌≡◌, ℕ, zero, suc, ◌+◌, Bool, true, false, not, ◌&&◌, ◌==◌, nat_le, if◌then◌else◌, List, [], ◌∷◌, length, drop, codes, Option, Some, None}
use Rattle.std.specs.List.{prefix_len, list_any}
use Rattle.std.specs.Option.{option_map, option_map_or}
use Rattle.std.specs.Str.{bytes_eq}
use Rattle.ftn_base.specs.Letters.{is_blank, is_letter, is_digit, is_name_byte}
use Rattle.ftn_tree.specs.Lines.{begins_with}
use Rattle.ftn_tree.specs.Code.{is_quote}
use Rattle.ftn_tree.specs.declared.token.TokenKind.TheVariants as tokens
use Rattle.ftn_tree.specs.declared.piece.PieceKind.{PieceKind}
use Rattle.ftn_tree.specs.declared.piece.PieceKind.TheVariants.{Blank, Stray, Unclosed, Token}

-- what a piece is, and how many bytes it has
abbrev pub Piece : Type 0
Piece = PieceKind × ℕ

-- two bytes that make one mark
abbrev pub pairs : List (List ℕ)
pairs = codes "**" ∷ codes "//" ∷ codes "==" ∷ codes "/=" ∷ codes "<=" ∷ codes ">=" ∷ codes "=>" ∷ codes "::" ∷ codes "(/" ∷ codes "/)" ∷ []

abbrev pub is_pair : ℕ → ℕ → Bool
is_pair a b = list_any (λ pair. bytes_eq pair (a ∷ b ∷ [])) pairs

abbrev pub is_mark : ℕ → Bool
is_mark b = list_any (λ mark. mark == b) (codes "(),=+-*/<>:%")

abbrev pub one_mark : ℕ → Piece
one_mark a = if is_mark a then (Token tokens.Mark, 1) else (Stray, 1)

abbrev pub mark_at : ℕ → List ℕ → Piece
mark_at a [] = one_mark a
mark_at a (b ∷ rest) = if is_pair a b then (Token tokens.Mark, 2) else one_mark a

-- how many bytes after a point are letters, one at least, and a second point
abbrev pub dotted_len : List ℕ → Option ℕ
dotted_len rest = let n = prefix_len is_letter rest in if nat_le 1 n && begins_with 46 (drop n rest) then Some (n + 1) else None

-- a point, and what follows it: letters and a point, or digits
abbrev pub point_at : List ℕ → Piece
point_at rest =
    option_map_or (λ n. (Token tokens.Dotted, 1 + n))
    (dotted_len rest)
    (let n = prefix_len is_digit rest in if nat_le 1 n then (Token tokens.RealForm, 1 + n) else (Stray, 1))

-- that many digits, and what follows them: an underscore and a kind, a point that begins no dotted token, or neither
abbrev pub number_at : ℕ → List ℕ → Piece
number_at n rest =
    if begins_with 95 rest then (Token tokens.RealForm, n + prefix_len is_name_byte rest)
    else if begins_with 46 rest && option_map_or (λ k. false) (dotted_len (drop 1 rest)) true then (Token tokens.RealForm, n + 1 + prefix_len is_digit (drop 1 rest))
    else (Token tokens.Whole, n)

-- how many bytes a constant has after its opening quote; a doubled quote doesn't close it
abbrev pub constant_len : ℕ → List ℕ → Option ℕ
constant_len quote [] = None
constant_len quote (b ∷ []) = if b == quote then Some 1 else None
constant_len quote (b ∷ c ∷ rest) =
    if not (b == quote) then option_map suc (constant_len quote (c ∷ rest))
    else if c == quote then option_map (λ n. 2 + n) (constant_len quote rest)
    else Some 1

abbrev pub constant_at : ℕ → List ℕ → Piece
constant_at quote rest = option_map_or (λ n. (Token tokens.Quoted, 1 + n)) (constant_len quote rest) (Unclosed, 1 + length rest)

-- the piece that begins with this byte, where those follow it
abbrev pub front : ℕ → List ℕ → Piece
front b rest =
    if is_blank b then (Blank, 1)
    else if is_letter b then (Token tokens.Word, 1 + prefix_len is_name_byte rest)
    else if is_digit b then number_at (1 + prefix_len is_digit rest) (drop (prefix_len is_digit rest) rest)
    else if b == 46 then point_at rest
    else if is_quote b then constant_at b rest
    else mark_at b rest

-- the pieces of a text, none left out
abbrev pub ArePieces : List ℕ → List Piece → Type 0
ArePieces [] pieces = pieces ≡ []
ArePieces (b ∷ rest) [] = ⊥
ArePieces (b ∷ rest) (piece ∷ pieces) = (front b rest ≡ piece) × ArePieces (drop piece.1 (b ∷ rest)) pieces

-- the same as a computation: the pieces of a text of at most that many bytes
abbrev pub pieces_within : ℕ → List ℕ → List Piece
pieces_within n [] = []
pieces_within zero (b ∷ rest) = []
pieces_within (suc n) (b ∷ rest) = front b rest ∷ pieces_within n (drop (front b rest).1 (b ∷ rest))

abbrev pub pieces_of : List ℕ → List Piece
pieces_of text = pieces_within (length text) text
