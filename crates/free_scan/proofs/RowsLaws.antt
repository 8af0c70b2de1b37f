-- A scan of all bytes of a row finds the tokens of its statements, and what is wrong with them.
use Rattle.std.proofs.Common.{◌≡◌, ℕ, zero, suc, ◌+◌, true, false, List, [], ◌∷◌, ◌++◌, length, refl, ap, sym, ◌∙◌, arith, append_assoc, append-nil}
use Rattle.std.specs.Prelude.{nat_lt, map, if◌then◌else◌}
use Rattle.std.specs.List.{All, flat_map, slice_split, onto_first}
use Rattle.std.proofs.lemmas.Bool.Decides.{nat_tests}
use Rattle.std.proofs.lemmas.List.{length-append}
use Rattle.std.proofs.lemmas.List.Concat.{flat_map-cons}
use Rattle.std.proofs.lemmas.List.Sums.{fold-append}
use Rattle.std.proofs.lemmas.List.Splits.{slice_split_at, slice_split_none}
use Rattle.ftn_base.specs.declared.name.Edition.{Edition}
use Rattle.ftn_tree.specs.declared.piece.Spot.{Spot}
use Rattle.ftn_tree.specs.declared.token.Token.{Token}
use Rattle.ftn_tree.specs.Breaks.{piece_breaches}
use Rattle.ftn_tree.specs.Logical.{Glyph, byte, gap, cut, is_cut}
use Rattle.ftn_tree.specs.Reading.{Cell, cell_of, is_gap, over_run, over_cells, ranges_from, range_if_some, runs_of, statement_tokens, token_of}
use Rattle.free_scan.specs.steps.Firsts.{earlier, least}
use Rattle.free_scan.specs.steps.Scanning.{State, finished, flushed, taken_all, new_range}
use Rattle.free_scan.specs.steps.RowsLeft.{before_first_of, rows_left, wrongs_left, ranges_left}

abbrev pub joined : List (List Token) → List Token
joined rows = flat_map (λ row. row) rows

joined_cons : (row : List Token) (rows : List (List Token)) → joined (row ∷ rows) ≡ row ++ joined rows
joined_cons row rows = flat_map-cons (λ row. row) row rows

joined_before : (xs : List Token) (rows : List (List Token)) → joined (before_first_of xs rows) ≡ xs ++ joined rows
joined_before xs [] = joined_cons xs []
joined_before xs (row ∷ rows) = joined_cons (xs ++ row) rows ∙ append_assoc xs row (joined rows) ∙ ap (λ more. xs ++ more) (sym (joined_cons row rows))

-- all tokens
pub items_left : (s : State) (row : List Glyph) → (finished (taken_all s row)).items ≡ s.items ++ joined (rows_left s.bytes s.spots row)
items_left s [] =
    ap (λ more. s.items ++ more) (sym (append-nil (over_run token_of s.bytes s.spots))) ∙ ap (λ more. s.items ++ more) (sym (joined_cons (over_run token_of s.bytes s.spots) []))
items_left s (byte b spot ∷ row) = items_left _ row
items_left s (gap ∷ row) =
    items_left (flushed s) row ∙ append_assoc s.items (over_run token_of s.bytes s.spots) (joined (rows_left [] [] row))
    ∙ ap (λ more. s.items ++ more) (sym (joined_before (over_run token_of s.bytes s.spots) (rows_left [] [] row)))
items_left s (cut ∷ row) =
    items_left (finished s) row ∙ append_assoc s.items (over_run token_of s.bytes s.spots) (joined (rows_left [] [] row))
    ∙ ap (λ more. s.items ++ more) (sym (joined_cons (over_run token_of s.bytes s.spots) (rows_left [] [] row)))

-- the first breach
pub firsts_left : (s : State) (row : List Glyph) → (finished (taken_all s row)).firsts ≡ least s.firsts (wrongs_left s.edition s.bytes s.spots row)
firsts_left s [] = refl
firsts_left s (byte b spot ∷ row) = firsts_left _ row
firsts_left s (gap ∷ row) = firsts_left (flushed s) row ∙ sym (fold-append earlier s.firsts (over_run (piece_breaches s.edition) s.bytes s.spots) (wrongs_left s.edition [] [] row))
firsts_left s (cut ∷ row) = firsts_left (finished s) row ∙ sym (fold-append earlier s.firsts (over_run (piece_breaches s.edition) s.bytes s.spots) (wrongs_left s.edition [] [] row))

abbrev pub IsSome : List (List Token) → Type 0
IsSome rows = (row : List Token) × (more : List (List Token)) × (rows ≡ row ∷ more)

before_some : (xs : List Token) (rows : List (List Token)) → IsSome (before_first_of xs rows)
before_some xs [] = (xs, [], refl)
before_some xs (row ∷ rows) = (xs ++ row, rows, refl)

some_rows : (bytes : List ℕ) (spots : List Spot) (row : List Glyph) → IsSome (rows_left bytes spots row)
some_rows bytes spots [] = (over_run token_of bytes spots, [], refl)
some_rows bytes spots (byte b spot ∷ row) = some_rows (bytes ++ b ∷ []) (spots ++ spot ∷ []) row
some_rows bytes spots (gap ∷ row) = before_some (over_run token_of bytes spots) (rows_left [] [] row)
some_rows bytes spots (cut ∷ row) = (over_run token_of bytes spots, rows_left [] [] row, refl)

ranges_before : (first count : ℕ) (xs : List Token) (rows : List (List Token)) → IsSome rows → ranges_left first (length xs + count) rows ≡ ranges_left first count (before_first_of xs rows)
ranges_before first count xs rows (row, more, is) =
    let size : count + length (xs ++ row) ≡ length xs + count + length row = omega (arith, length-append xs row) in
    rw (is, size) refl

counted : (xs ys : List Token) → length (xs ++ ys) ≡ length ys + length xs
counted xs ys = omega (arith, length-append xs ys)

-- the ranges of all statements
pub statements_left : (s : State) (row : List Glyph) → (finished (taken_all s row)).statements ≡ s.statements ++ ranges_left s.first (length s.items) (rows_left s.bytes s.spots row)
statements_left s [] =
    let found : List Token = over_run token_of s.bytes s.spots in
    let size : length (s.items ++ found) ≡ length s.items + length found = length-append s.items found in
    rw size (ap (λ more. s.statements ++ more) (sym (append-nil (new_range s.first (length s.items + length found)))))
statements_left s (byte b spot ∷ row) = statements_left _ row
statements_left s (gap ∷ row) =
    let found : List Token = over_run token_of s.bytes s.spots in
    statements_left (flushed s) row
    ∙ ap (λ n. s.statements ++ ranges_left s.first n (rows_left [] [] row)) (counted s.items found)
    ∙ ap (λ more. s.statements ++ more) (ranges_before s.first (length s.items) found (rows_left [] [] row) (some_rows [] [] row))
statements_left s (cut ∷ row) =
    let found : List Token = over_run token_of s.bytes s.spots in
    let size : length (s.items ++ found) ≡ length s.items + length found = length-append s.items found in
    statements_left (finished s) row
    ∙ append_assoc s.statements (new_range s.first (length (s.items ++ found))) (ranges_left (length (s.items ++ found)) (length (s.items ++ found)) (rows_left [] [] row))
    ∙ ap (λ n. s.statements ++ (new_range s.first n ++ ranges_left n n (rows_left [] [] row))) size

less_zero : (n : ℕ) → nat_lt n (n + 0) ≡ false
less_zero n = grind (arith, nat_tests)

less_suc : (n m : ℕ) → nat_lt n (n + suc m) ≡ true
less_suc n m = grind (arith, nat_tests)

one_range : (first : ℕ) (row : List Token) → new_range first (first + length row) ≡ range_if_some first row
one_range first [] = ap (λ b. if b then record { start = first; end = first + 0 } ∷ [] else []) (less_zero first)
one_range first (token ∷ row) = ap (λ b. if b then record { start = first; end = first + suc (length row) } ∷ [] else []) (less_suc first (length row))

pub same_ranges : (first : ℕ) (rows : List (List Token)) → ranges_left first first rows ≡ ranges_from first rows
same_ranges first [] = refl
same_ranges first (row ∷ rows) =
    ap (λ range. range ++ ranges_left (first + length row) (first + length row) rows) (one_range first row)
    ∙ ap (λ more. range_if_some first row ++ more) (same_ranges (first + length row) rows)

-- the bytes of a run in a row
abbrev pub row_of_run : List Cell → List Glyph
row_of_run cells = map (λ cell. byte cell.0 cell.1) cells

cells_back : (cells : List Cell) → flat_map cell_of (row_of_run cells) ≡ cells
cells_back [] = refl
cells_back ((b, spot) ∷ cells) = flat_map-cons cell_of (byte b spot) (row_of_run cells) ∙ ap (λ more. (b, spot) ∷ more) (cells_back cells)

no_gap : (cells : List Cell) → All (λ glyph. is_gap glyph ≡ false) (row_of_run cells)
no_gap [] i d less = absurd (omega arith)
no_gap ((b, spot) ∷ cells) zero d less = refl
no_gap ((b, spot) ∷ cells) (suc i) d less = no_gap cells i d (omega arith)

no_cut : (cells : List Cell) → All (λ glyph. is_cut glyph ≡ false) (row_of_run cells)
no_cut [] i d less = absurd (omega arith)
no_cut ((b, spot) ∷ cells) zero d less = refl
no_cut ((b, spot) ∷ cells) (suc i) d less = no_cut cells i d (omega arith)

one_run : (cells : List Cell) → runs_of (row_of_run cells) ≡ cells ∷ []
one_run cells = ap (map (flat_map cell_of)) (slice_split_none is_gap (row_of_run cells) (no_gap cells)) ∙ ap (λ run. run ∷ []) (cells_back cells)

run_first : (cells : List Cell) (glyph : Glyph) (row : List Glyph) → is_gap glyph ≡ true → runs_of (row_of_run cells ++ glyph ∷ row) ≡ cells ∷ runs_of row
run_first cells glyph row is =
    ap (map (flat_map cell_of)) (slice_split_at is_gap (row_of_run cells) glyph row (no_gap cells) is) ∙ ap (λ run. run ∷ runs_of row) (cells_back cells)

longer : (cells : List Cell) (b : ℕ) (spot : Spot) (row : List Glyph) → row_of_run (cells ++ (b, spot) ∷ []) ++ row ≡ row_of_run cells ++ byte b spot ∷ row
longer [] b spot row = refl
longer (cell ∷ cells) b spot row = ap (λ more. byte cell.0 cell.1 ∷ more) (longer cells b spot row)

bytes_on : (cells : List Cell) (b : ℕ) (spot : Spot) → map (λ cell. cell.0) (cells ++ (b, spot) ∷ []) ≡ map (λ cell. cell.0) cells ++ b ∷ []
bytes_on [] b spot = refl
bytes_on (cell ∷ cells) b spot = ap (λ more. cell.0 ∷ more) (bytes_on cells b spot)

spots_on : (cells : List Cell) (b : ℕ) (spot : Spot) → map (λ cell. cell.1) (cells ++ (b, spot) ∷ []) ≡ map (λ cell. cell.1) cells ++ spot ∷ []
spots_on [] b spot = refl
spots_on (cell ∷ cells) b spot = ap (λ more. cell.1 ∷ more) (spots_on cells b spot)

abbrev pub bytes_in : List Cell → List ℕ
bytes_in cells = map (λ cell. cell.0) cells

abbrev pub spots_in : List Cell → List Spot
spots_in cells = map (λ cell. cell.1) cells

-- all that is wrong with the runs of a row
pub wrongs_of_runs : (edition : Edition) (cells : List Cell) (row : List Glyph)
    → wrongs_left edition (bytes_in cells) (spots_in cells) row ≡ flat_map (over_cells (piece_breaches edition)) (runs_of (row_of_run cells ++ row))
wrongs_of_runs edition cells [] =
    sym (ap (λ row. flat_map (over_cells (piece_breaches edition)) (runs_of row)) (append-nil (row_of_run cells))
    ∙ ap (flat_map (over_cells (piece_breaches edition))) (one_run cells)
    ∙ flat_map-cons (over_cells (piece_breaches edition)) cells []
    ∙ append-nil (over_cells (piece_breaches edition) cells))
wrongs_of_runs edition cells (byte b spot ∷ row) =
    ap (λ bytes. wrongs_left edition bytes (spots_in cells ++ spot ∷ []) row) (sym (bytes_on cells b spot))
    ∙ ap (λ spots. wrongs_left edition (bytes_in (cells ++ (b, spot) ∷ [])) spots row) (sym (spots_on cells b spot))
    ∙ wrongs_of_runs edition (cells ++ (b, spot) ∷ []) row
    ∙ ap (λ row. flat_map (over_cells (piece_breaches edition)) (runs_of row)) (longer cells b spot row)
wrongs_of_runs edition cells (gap ∷ row) =
    ap (λ more. over_cells (piece_breaches edition) cells ++ more) (wrongs_of_runs edition [] row)
    ∙ sym (flat_map-cons (over_cells (piece_breaches edition)) cells (runs_of row))
    ∙ sym (ap (flat_map (over_cells (piece_breaches edition))) (run_first cells gap row refl))
wrongs_of_runs edition cells (cut ∷ row) =
    ap (λ more. over_cells (piece_breaches edition) cells ++ more) (wrongs_of_runs edition [] row)
    ∙ sym (flat_map-cons (over_cells (piece_breaches edition)) cells (runs_of row))
    ∙ sym (ap (flat_map (over_cells (piece_breaches edition))) (run_first cells cut row refl))

one_statement : (cells : List Cell) → statement_tokens (row_of_run cells) ≡ over_cells token_of cells
one_statement cells =
    ap (flat_map (over_cells token_of)) (one_run cells) ∙ flat_map-cons (over_cells token_of) cells [] ∙ append-nil (over_cells token_of cells)

some_parts : (row : List Glyph) → (part : List Glyph) × (more : List (List Glyph)) × (slice_split is_cut row ≡ part ∷ more)
some_parts [] = ([], [], refl)
some_parts (cut ∷ row) = ([], slice_split is_cut row, refl)
some_parts (gap ∷ row) = let (part, more, is) = some_parts row in (gap ∷ part, more, ap (onto_first gap) is)
some_parts (byte b spot ∷ row) = let (part, more, is) = some_parts row in (byte b spot ∷ part, more, ap (onto_first (byte b spot)) is)

-- up to a gap there is no cut
split_gap : (cells : List Cell) (row : List Glyph) → slice_split is_cut (row_of_run cells ++ gap ∷ row) ≡ before_first_of (row_of_run cells ++ gap ∷ []) (slice_split is_cut row)
split_gap [] row = let (part, more, is) = some_parts row in rw is refl
split_gap ((b, spot) ∷ cells) row =
    let (part, more, is) = some_parts row in
    ap (onto_first (byte b spot)) (split_gap cells row) ∙ rw is refl

-- the tokens of a statement up to a gap, and of what follows it
gap_statement : (cells : List Cell) (part : List Glyph) → statement_tokens ((row_of_run cells ++ gap ∷ []) ++ part) ≡ over_cells token_of cells ++ statement_tokens part
gap_statement cells part =
    ap statement_tokens (append_assoc (row_of_run cells) (gap ∷ []) part)
    ∙ ap (flat_map (over_cells token_of)) (run_first cells gap part refl)
    ∙ flat_map-cons (over_cells token_of) cells (runs_of part)

gap_rows : (cells : List Cell) (parts : List (List Glyph)) → ((part : List Glyph) × (more : List (List Glyph)) × (parts ≡ part ∷ more))
    → before_first_of (over_cells token_of cells) (map statement_tokens parts) ≡ map statement_tokens (before_first_of (row_of_run cells ++ gap ∷ []) parts)
gap_rows cells parts (part, more, is) = rw is (ap (λ first. first ∷ map statement_tokens more) (sym (gap_statement cells part)))

-- the tokens of all statements of a row
pub rows_of_row : (cells : List Cell) (row : List Glyph) → rows_left (bytes_in cells) (spots_in cells) row ≡ map statement_tokens (slice_split is_cut (row_of_run cells ++ row))
rows_of_row cells [] =
    sym (ap (λ row. map statement_tokens (slice_split is_cut row)) (append-nil (row_of_run cells))
    ∙ ap (map statement_tokens) (slice_split_none is_cut (row_of_run cells) (no_cut cells))
    ∙ ap (λ first. first ∷ []) (one_statement cells))
rows_of_row cells (byte b spot ∷ row) =
    ap (λ bytes. rows_left bytes (spots_in cells ++ spot ∷ []) row) (sym (bytes_on cells b spot))
    ∙ ap (λ spots. rows_left (bytes_in (cells ++ (b, spot) ∷ [])) spots row) (sym (spots_on cells b spot))
    ∙ rows_of_row (cells ++ (b, spot) ∷ []) row
    ∙ ap (λ row. map statement_tokens (slice_split is_cut row)) (longer cells b spot row)
rows_of_row cells (gap ∷ row) =
    ap (before_first_of (over_cells token_of cells)) (rows_of_row [] row)
    ∙ gap_rows cells (slice_split is_cut row) (some_parts row)
    ∙ sym (ap (map statement_tokens) (split_gap cells row))
rows_of_row cells (cut ∷ row) =
    ap (λ more. over_cells token_of cells ∷ more) (rows_of_row [] row)
    ∙ ap (λ first. first ∷ map statement_tokens (slice_split is_cut row)) (sym (one_statement cells))
    ∙ sym (ap (map statement_tokens) (slice_split_at is_cut (row_of_run cells) cut row (no_cut cells) refl))
