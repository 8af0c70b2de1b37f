-- Bytes of one line that stand for themselves, so that their places adjoin, and the tokens among them. It serves the proof of
-- the code.
use Rattle.std.specs.Prelude.{ℕ, zero, suc, ◌+◌, Bool, not, false, ◌&&◌, ◌||◌, ◌==◌, nat_le, nat_lt, if◌then◌else◌, List, [], ◌∷◌, ◌++◌, length, Option, Some, None}
use Rattle.ftn_base.specs.Limits.{greatest_integer, name_limit}
use Rattle.ftn_base.specs.declared.name.Edition.{Edition}
use Rattle.ftn_base.specs.declared.fault.FaultKind.TheVariants as kinds
use Rattle.ftn_tree.specs.declared.token.TokenKind.{TokenKind}
use Rattle.ftn_tree.specs.declared.token.TokenKind.TheVariants as tokens
use Rattle.ftn_tree.specs.declared.token.Token.{Token}
use Rattle.ftn_tree.specs.declared.piece.PieceKind.{PieceKind}
use Rattle.ftn_tree.specs.declared.piece.PieceKind.TheVariants as pieces
use Rattle.ftn_tree.specs.declared.piece.Spot.{Spot}
use Rattle.ftn_tree.specs.Breaks.{Breach, number_of, only_if}
use Rattle.ftn_tree.specs.Code.{is_outside, is_wrong, quote_after}
use Rattle.ftn_tree.specs.Reading.{value_of}
use Rattle.free_scan.specs.steps.Scanning.{State}

-- where that quote is open: a byte that ends no statement, and may stand there
abbrev pub is_plain : Option ℕ → ℕ → Bool
is_plain quote b = not (is_outside quote && b == 59 || is_wrong quote b)

-- outside constants: a blank, or a letter, a digit or a mark but for `!`, `;`, `&` and quotes. Some such bytes are left out, so that
-- the test is short
abbrev pub is_calm : ℕ → Bool
is_calm b = b == 32 || nat_le 40 b && nat_lt b 127 && not (b == 59)

-- the quote that is open after the bytes, if each of them is such a byte
abbrev pub plain_end : Option ℕ → List ℕ → Option (Option ℕ)
plain_end quote [] = Some quote
plain_end quote (b ∷ rest) = if is_plain quote b then plain_end (quote_after quote b) rest else None

-- the places of that many bytes of a line, from that offset on
abbrev pub adjoining : ℕ → ℕ → ℕ → List Spot
adjoining line at zero = []
adjoining line at (suc n) = record { at = at; line = line } ∷ adjoining line (at + 1) n

-- such bytes are taken
abbrev pub with_row : ℕ → ℕ → List ℕ → State → State
with_row line at row s = record {
  edition = s.edition;
  items = s.items;
  statements = s.statements;
  first = s.first;
  bytes = s.bytes ++ row;
  spots = s.spots ++ adjoining line at (length row);
  firsts = s.firsts;
}

-- the token of bytes that adjoin
abbrev pub row_token : TokenKind → List ℕ → ℕ → ℕ → Token
row_token kind bytes line at = record {
  kind = kind;
  range = record { start = at; end = at + length bytes };
  line = line;
  split = false;
  value = value_of kind bytes;
}

-- the token of a piece, if it is one
abbrev pub row_tokens : PieceKind → List ℕ → ℕ → ℕ → List Token
row_tokens pieces.Blank bytes line at = []
row_tokens pieces.Stray bytes line at = []
row_tokens pieces.Unclosed bytes line at = []
row_tokens (pieces.Token kind) bytes line at = row_token kind bytes line at ∷ []

-- what is wrong with a piece
abbrev pub row_breaches : Edition → PieceKind → List ℕ → ℕ → List Breach
row_breaches edition pieces.Blank bytes at = []
row_breaches edition pieces.Stray bytes at = (at, kinds.BadByte) ∷ []
row_breaches edition pieces.Unclosed bytes at = (at, kinds.OpenText) ∷ []
row_breaches edition (pieces.Token tokens.Word) bytes at = only_if (nat_lt (name_limit edition) (length bytes)) (at, kinds.LongName)
row_breaches edition (pieces.Token tokens.Whole) bytes at = only_if (nat_lt greatest_integer (number_of bytes)) (at, kinds.BigNumber)
row_breaches edition (pieces.Token tokens.RealForm) bytes at = []
row_breaches edition (pieces.Token tokens.Quoted) bytes at = []
row_breaches edition (pieces.Token tokens.Dotted) bytes at = []
row_breaches edition (pieces.Token tokens.Mark) bytes at = []
