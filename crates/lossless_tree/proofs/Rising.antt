-- The tokens of a text stand in its order, none is empty, and no two of them overlap.
use Rattle.std.proofs.Common.{◌≡◌, ℕ, zero, suc, ◌+◌, ◌≤◌, Bool, false, List, [], ◌∷◌, ◌++◌, length, take, drop, refl, arith}
use Rattle.std.specs.Prelude.{map}
use Rattle.std.specs.List.{flat_map, slice_split, onto_first}
use Rattle.std.proofs.lemmas.Bool.{cond_both}
use Rattle.ftn_tree.specs.declared.piece.PieceKind.{PieceKind}
use Rattle.ftn_tree.specs.declared.piece.PieceKind.TheVariants as pieces
use Rattle.ftn_tree.specs.declared.piece.Spot.{Spot}
use Rattle.ftn_tree.specs.declared.token.Token.{Token}
use Rattle.ftn_tree.specs.Logical.{Glyph, byte, gap, cut, is_cut, row_of}
use Rattle.ftn_tree.specs.Pieces.{Piece, pieces_of}
use Rattle.ftn_tree.specs.Reading.{Cell, cell_of, is_gap, each_piece, last_of, over_cells, statement_tokens, token_of, tokens_of}
use Rattle.lossless_tree.specs.Texts.{Rise}
use Rattle.lossless_tree.proofs.LineRows.{RowRises, row_rises}

-- spots stand one after another, from that offset on and before that one
abbrev pub SpotsRise : ℕ → List Spot → ℕ → Type 0
SpotsRise at [] stop = at ≤ stop
SpotsRise at (spot ∷ spots) stop = (at ≤ spot.at) × SpotsRise (spot.at + 1) spots stop

spots_span : (at stop : ℕ) (spots : List Spot) → SpotsRise at spots stop → at ≤ stop
spots_span at stop [] rises = rises
spots_span at stop (spot ∷ spots) (first, more) = let less : spot.at + 1 ≤ stop = spots_span (spot.at + 1) stop spots more in omega arith

spots_split : (n at stop : ℕ) (spots : List Spot) → SpotsRise at spots stop → (mid : ℕ) × SpotsRise at (take n spots) mid × SpotsRise mid (drop n spots) stop
spots_split zero at stop spots rises = (at, omega arith, rises)
spots_split (suc n) at stop [] rises = (at, omega arith, rises)
spots_split (suc n) at stop (spot ∷ spots) (first, more) = let (mid, left, right) = spots_split n (spot.at + 1) stop spots more in (mid, (first, left), right)

last_by : (stop : ℕ) (first : Spot) (spots : List Spot) → SpotsRise (first.at + 1) spots stop → (first.at ≤ (last_of first spots).at) × ((last_of first spots).at + 1 ≤ stop)
last_by stop first [] rises = (omega arith, rises)
last_by stop first (spot ∷ spots) (next, more) = let (low, high) = last_by stop spot spots more in (omega arith, high)

tokens_sooner : (from at stop : ℕ) (tokens : List Token) → from ≤ at → Rise at tokens stop → Rise from tokens stop
tokens_sooner from at stop [] less rises = omega arith
tokens_sooner from at stop (token ∷ tokens) less (first, some, more) = (omega arith, some, more)

tokens_both : (at mid stop : ℕ) (xs ys : List Token) → Rise at xs mid → Rise mid ys stop → Rise at (xs ++ ys) stop
tokens_both at mid stop [] ys left right = tokens_sooner at mid stop ys left right
tokens_both at mid stop (token ∷ xs) ys (first, some, more) right = (first, some, tokens_both token.range.end mid stop xs ys more right)

token_rises : (at stop : ℕ) (kind : PieceKind) (bytes : List ℕ) (spots : List Spot) → SpotsRise at spots stop → Rise at (token_of kind bytes spots) stop
token_rises at stop kind bytes [] rises = rises
token_rises at stop pieces.Blank bytes (first ∷ spots) rises = spots_span at stop (first ∷ spots) rises
token_rises at stop pieces.Stray bytes (first ∷ spots) rises = spots_span at stop (first ∷ spots) rises
token_rises at stop pieces.Unclosed bytes (first ∷ spots) rises = spots_span at stop (first ∷ spots) rises
token_rises at stop (pieces.Token kind) bytes (first ∷ spots) (up, more) = let (low, high) = last_by stop first spots more in (up, omega arith, high)

pieces_rise : (at stop : ℕ) (bytes : List ℕ) (spots : List Spot) (ps : List Piece) → SpotsRise at spots stop → Rise at (each_piece token_of bytes spots ps) stop
pieces_rise at stop bytes spots [] rises = spots_span at stop spots rises
pieces_rise at stop bytes spots (piece ∷ ps) rises =
    let (mid, left, right) = spots_split piece.1 at stop spots rises in
    tokens_both at mid stop (token_of piece.0 (take piece.1 bytes) (take piece.1 spots)) (each_piece token_of (drop piece.1 bytes) (drop piece.1 spots) ps)
    (token_rises at mid piece.0 (take piece.1 bytes) (take piece.1 spots) left) (pieces_rise mid stop (drop piece.1 bytes) (drop piece.1 spots) ps right)

cells_rise : (at stop : ℕ) (row : List Glyph) → RowRises at row stop → SpotsRise at (map (λ cell. cell.1) (flat_map cell_of row)) stop
cells_rise at stop [] rises = rises
cells_rise at stop (byte b spot ∷ row) (first, more) = (first, cells_rise (spot.at + 1) stop row more)
cells_rise at stop (gap ∷ row) rises = cells_rise at stop row rises
cells_rise at stop (cut ∷ row) rises = cells_rise at stop row rises

run_rises : (at stop : ℕ) (row : List Glyph) → RowRises at row stop → Rise at (over_cells token_of (flat_map cell_of row)) stop
run_rises at stop row rises =
    let cells : List Cell = flat_map cell_of row in
    pieces_rise at stop (map (λ cell. cell.0) cells) (map (λ cell. cell.1) cells) (pieces_of (map (λ cell. cell.0) cells)) (cells_rise at stop row rises)

-- rows stand one after another
abbrev pub RowsRise : ℕ → List (List Glyph) → ℕ → Type 0
RowsRise at [] stop = at ≤ stop
RowsRise at (row ∷ rows) stop = (mid : ℕ) × RowRises at row mid × RowsRise mid rows stop

onto_byte : (at stop b : ℕ) (spot : Spot) (rows : List (List Glyph)) → at ≤ spot.at → RowsRise (spot.at + 1) rows stop → RowsRise at (onto_first (byte b spot) rows) stop
onto_byte at stop b spot [] up rise = (stop, (up, rise), omega arith)
onto_byte at stop b spot (row ∷ rows) up (mid, first, more) = (mid, (up, first), more)

onto_gap : (at stop : ℕ) (rows : List (List Glyph)) → RowsRise at rows stop → RowsRise at (onto_first gap rows) stop
onto_gap at stop [] rise = (stop, rise, omega arith)
onto_gap at stop (row ∷ rows) rise = rise

onto_cut : (at stop : ℕ) (rows : List (List Glyph)) → RowsRise at rows stop → RowsRise at (onto_first cut rows) stop
onto_cut at stop [] rise = (stop, rise, omega arith)
onto_cut at stop (row ∷ rows) rise = rise

split_rise : (q : Glyph → Bool) → ((b : ℕ) (spot : Spot) → q (byte b spot) ≡ false) → (at stop : ℕ) (row : List Glyph) → RowRises at row stop → RowsRise at (slice_split q row) stop
split_rise q bytes at stop [] rises = (stop, rises, omega arith)
split_rise q bytes at stop (byte b spot ∷ row) (first, more) =
    rw (bytes b spot) (onto_byte at stop b spot (slice_split q row) first (split_rise q bytes (spot.at + 1) stop row more))
split_rise q bytes at stop (gap ∷ row) rises =
    let more : RowsRise at (slice_split q row) stop = split_rise q bytes at stop row rises in
    cond_both (q gap) _ _ (λ rows. RowsRise at rows stop) (λ e. (at, omega arith, more)) (λ e. onto_gap at stop (slice_split q row) more)
split_rise q bytes at stop (cut ∷ row) rises =
    let more : RowsRise at (slice_split q row) stop = split_rise q bytes at stop row rises in
    cond_both (q cut) _ _ (λ rows. RowsRise at rows stop) (λ e. (at, omega arith, more)) (λ e. onto_cut at stop (slice_split q row) more)

-- what each row gives, one after another
each_rise : {A : Type 0} (g : List Glyph → A) (f : A → List Token) → ((at stop : ℕ) (row : List Glyph) → RowRises at row stop → Rise at (f (g row)) stop)
    → (at stop : ℕ) (rows : List (List Glyph)) → RowsRise at rows stop → Rise at (flat_map f (map g rows)) stop
each_rise g f one at stop [] rise = rise
each_rise g f one at stop (row ∷ rows) (mid, first, more) =
    tokens_both at mid stop (f (g row)) (flat_map f (map g rows)) (one at mid row first) (each_rise g f one mid stop rows more)

statement_rises : (at stop : ℕ) (row : List Glyph) → RowRises at row stop → Rise at (statement_tokens row) stop
statement_rises at stop row rises =
    each_rise (flat_map cell_of) (over_cells token_of) run_rises at stop (slice_split is_gap row) (split_rise is_gap (λ b spot. refl) at stop row rises)

-- the tokens of a text rise
pub tokens_rise : (text : List ℕ) → Rise 0 (tokens_of text).items (length text)
tokens_rise text =
    each_rise statement_tokens (λ row. row) statement_rises 0 (length text) (slice_split is_cut (row_of text)) (split_rise is_cut (λ b spot. refl) 0 (length text) (row_of text) (row_rises text))
