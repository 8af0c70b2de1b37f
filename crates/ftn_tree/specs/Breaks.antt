-- Where a text breaks a rule of source form (Fortran 90, 3.1 to 3.3).
use Rattle.std.specs.Prelude.{◌≡◌, ℕ, ◌+◌, ◌*◌, ◌-◌, ◌<◌, ◌≤◌, ◌⊎◌, Bool, true, false, ◌==◌, nat_lt, List, [], ◌∷◌, ◌++◌, fold, length, Option, Some, None}
use Rattle.std.specs.List.{flat_map}
use Rattle.ftn_base.specs.Limits.{continuation_limit, greatest_integer, line_limit, name_limit}
use Rattle.ftn_base.specs.declared.name.Edition.{Edition}
use Rattle.ftn_base.specs.declared.fault.FaultKind.{FaultKind}
use Rattle.ftn_base.specs.declared.fault.FaultKind.TheVariants as kinds
use Rattle.ftn_tree.specs.declared.token.TokenKind.TheVariants as tokens
use Rattle.ftn_tree.specs.declared.piece.PieceKind.{PieceKind}
use Rattle.ftn_tree.specs.declared.piece.PieceKind.TheVariants as pieces
use Rattle.ftn_tree.specs.declared.piece.Spot.{Spot}
use Rattle.ftn_tree.specs.Lines.{Line, indent, lines_of, code_lines}
use Rattle.ftn_tree.specs.Code.{quote_after, is_outside, is_wrong}
use Rattle.ftn_tree.specs.Logical.{Carried, stands_alone, skipped, open_at, text_of, count_at, after_line, row_of}
use Rattle.ftn_tree.specs.Reading.{over_cells, runs_of}

-- where a rule is broken, and which
abbrev pub Breach : Type 0
Breach = ℕ × FaultKind

abbrev pub only_if : Bool → Breach → List Breach
only_if true breach = breach ∷ []
only_if false breach = []

-- 3.3.1
abbrev pub long_line : Line → List Breach
long_line line = only_if (nat_lt line_limit (length line.body)) (line.at + line_limit, kinds.LongLine)

-- bytes that may not stand there
abbrev pub wrong_bytes : Option ℕ → ℕ → List ℕ → List Breach
wrong_bytes within at [] = []
wrong_bytes within at (b ∷ rest) = only_if (is_wrong within b) (at, kinds.BadByte) ++ wrong_bytes (quote_after within b) (at + 1) rest

abbrev pub line_breaches : Edition → Option Carried → Line → List Breach
line_breaches edition before line =
    only_if (count_at before == continuation_limit edition + 1) (line.at, kinds.ManyContinuations)
    ++ only_if (stands_alone before line.body) (line.at + indent line.body, kinds.LoneAmpersand)
    ++ wrong_bytes (open_at before line.body) (line.at + skipped before line.body) (text_of before line.body)

-- a statement that goes on where no line follows
abbrev pub end_breaches : Option Carried → List Breach
end_breaches None = []
end_breaches (Some carried) = only_if (is_outside carried.within) (carried.mark, kinds.LoneAmpersand)

abbrev pub breaches_from : Edition → Option Carried → List Line → List Breach
breaches_from edition before [] = end_breaches before
breaches_from edition before (line ∷ lines) = line_breaches edition before line ++ breaches_from edition (after_line before line) lines

-- the number that digits mean
abbrev pub number_of : List ℕ → ℕ
number_of digits = fold (λ n digit. n * 10 + (digit - 48)) 0 digits

-- what is wrong with a piece
abbrev pub piece_breaches : Edition → PieceKind → List ℕ → List Spot → List Breach
piece_breaches edition kind bytes [] = []
piece_breaches edition pieces.Blank bytes (first ∷ spots) = []
piece_breaches edition pieces.Stray bytes (first ∷ spots) = (first.at, kinds.BadByte) ∷ []
piece_breaches edition pieces.Unclosed bytes (first ∷ spots) = (first.at, kinds.OpenText) ∷ []
piece_breaches edition (pieces.Token tokens.Word) bytes (first ∷ spots) = only_if (nat_lt (name_limit edition) (length bytes)) (first.at, kinds.LongName)
piece_breaches edition (pieces.Token tokens.Whole) bytes (first ∷ spots) = only_if (nat_lt greatest_integer (number_of bytes)) (first.at, kinds.BigNumber)
piece_breaches edition (pieces.Token tokens.RealForm) bytes (first ∷ spots) = []
piece_breaches edition (pieces.Token tokens.Quoted) bytes (first ∷ spots) = []
piece_breaches edition (pieces.Token tokens.Dotted) bytes (first ∷ spots) = []
piece_breaches edition (pieces.Token tokens.Mark) bytes (first ∷ spots) = []

-- all breaches of a text: of its lines, of its code, and of its pieces
abbrev pub breaches_of : Edition → List ℕ → List Breach
breaches_of edition text =
    flat_map long_line (lines_of text)
    ++ breaches_from edition None (code_lines text)
    ++ flat_map (over_cells (piece_breaches edition)) (runs_of (row_of text))

-- which kind comes first of two at one place
abbrev pub rank : FaultKind → ℕ
rank kinds.BadByte = 0
rank kinds.OpenText = 1
rank kinds.LongLine = 2
rank kinds.ManyContinuations = 3
rank kinds.LoneAmpersand = 4
rank kinds.LongName = 5
rank kinds.BigNumber = 6
rank other = 7

abbrev pub Among : Breach → List Breach → Type 0
Among breach [] = ⊥
Among breach (first ∷ rest) = (breach ≡ first) ⊎ Among breach rest

-- the first of them by place and, at one place, by kind
pub record IsFirst (breach : Breach) (breaches : List Breach) : Type 0 where
  pub among : Among breach breaches
  pub least : (other : Breach) → Among other breaches → (breach.0 < other.0) ⊎ ((breach.0 ≡ other.0) × (rank breach.1 ≤ rank other.1))

-- the place at which a text breaks a rule first, and which rule
abbrev pub IsBreak : Edition → List ℕ → ℕ → FaultKind → Type 0
IsBreak edition text at kind = IsFirst (at, kind) (breaches_of edition text)
