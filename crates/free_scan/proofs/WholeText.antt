-- What a scan finds of a whole text.
use Rattle.std.proofs.Common.{◌≡◌, ℕ, suc, ◌+◌, ◌≤◌, List, [], ◌∷◌, length, length-append, Option, None, ap, ◌∙◌, sym, subst, arith}
use Rattle.std.specs.List.{flat_map}
use Rattle.ftn_base.specs.declared.name.Edition.{Edition}
use Rattle.ftn_base.specs.declared.place.Range.{Range}
use Rattle.ftn_tree.specs.declared.token.Token.{Token}
use Rattle.ftn_tree.specs.declared.token.Tokens.{Tokens}
use Rattle.ftn_tree.specs.Breaks.{Breach, breaches_from, breaches_of, long_line, piece_breaches}
use Rattle.ftn_tree.specs.Lines.{code_lines, line_starts, lines_of}
use Rattle.ftn_tree.specs.Logical.{row_of}
use Rattle.ftn_tree.specs.Reading.{over_cells, ranges_from, rows_of, runs_of, tokens_of}
use Rattle.free_scan.specs.steps.Firsts.{least, merged, IsFirstOf}
use Rattle.free_scan.specs.steps.RowsLeft.{rows_left}
use Rattle.free_scan.specs.steps.Scanning.{State, IsWithin, begun, finished, taken_all}
use Rattle.free_scan.proofs.FirstsLaws.{first_of_all, merged_firsts}
use Rattle.free_scan.proofs.ScanLaws.{within_finished}
use Rattle.free_scan.proofs.RowsLaws.{joined, items_left, statements_left, firsts_left, same_ranges, rows_of_row, wrongs_of_runs}

-- where all bytes are taken
abbrev pub scanned : Edition → List ℕ → State
scanned edition text = finished (taken_all (begun edition) (row_of text))

all_items : (edition : Edition) (text : List ℕ) → (scanned edition text).items ≡ flat_map (λ row. row) (rows_of text)
all_items edition text = items_left (begun edition) (row_of text) ∙ ap joined (rows_of_row [] (row_of text))

all_statements : (edition : Edition) (text : List ℕ) → (scanned edition text).statements ≡ ranges_from 0 (rows_of text)
all_statements edition text =
    statements_left (begun edition) (row_of text) ∙ same_ranges 0 (rows_left [] [] (row_of text)) ∙ ap (ranges_from 0) (rows_of_row [] (row_of text))

abbrev pub made : List Token → List Range → List ℕ → Tokens
made items statements starts = record { items = items; statements = statements; line_starts = starts }

-- the tokens
pub whole_tokens : (edition : Edition) (text : List ℕ) (s : State) (starts : List ℕ) → s ≡ scanned edition text → starts ≡ line_starts text
    → ◌≡◌ {A = Tokens} (record { items = s.items; statements = s.statements; line_starts = starts }) (tokens_of text)
whole_tokens edition text s starts is are =
    ap (λ items. made items s.statements starts) (ap (λ s. s.items) is ∙ all_items edition text)
    ∙ ap (λ statements. made (flat_map (λ row. row) (rows_of text)) statements starts) (ap (λ s. s.statements) is ∙ all_statements edition text)
    ∙ ap (made (flat_map (λ row. row) (rows_of text)) (ranges_from 0 (rows_of text))) are

-- each statement has a token
few_ranges : (first : ℕ) (rows : List (List Token)) → length (ranges_from first rows) ≤ length (flat_map (λ (row : List Token). row) rows)
few_ranges first [] = omega arith
few_ranges first ([] ∷ rows) = few_ranges (first + 0) rows
few_ranges first ((token ∷ more) ∷ rows) =
    omega (arith, length-append more (flat_map (λ (row : List Token). row) rows), few_ranges (first + suc (length more)) rows)

-- there are no more statements than tokens
pub few_statements : (n : ℕ) (edition : Edition) (text : List ℕ) (s t : State) → IsWithin n s → t ≡ finished s → t ≡ scanned edition text → length t.statements ≤ n
few_statements n edition text s t within is all =
    let found : IsWithin n t = subst (λ (u : State). IsWithin n u) (sym is) (within_finished n s within) in
    let items : length t.items ≡ length (flat_map (λ (row : List Token). row) (rows_of text)) = ap (λ (u : State). length u.items) all ∙ ap (λ (l : List Token). length l) (all_items edition text) in
    let statements : length t.statements ≡ length (ranges_from 0 (rows_of text)) = ap (λ (u : State). length u.statements) all ∙ ap (λ (l : List Range). length l) (all_statements edition text) in
    omega (arith, found, items, statements, few_ranges 0 (rows_of text))

all_wrongs : (edition : Edition) (text : List ℕ) → (scanned edition text).firsts ≡ least None (flat_map (over_cells (piece_breaches edition)) (runs_of (row_of text)))
all_wrongs edition text = firsts_left (begun edition) (row_of text) ∙ ap (least None) (wrongs_of_runs edition [] (row_of text))

-- the first breach
pub whole_firsts : (edition : Edition) (text : List ℕ) (s : State) (long code found : Option Breach) → s ≡ scanned edition text
    → long ≡ least None (flat_map long_line (lines_of text)) → code ≡ least None (breaches_from edition None (code_lines text))
    → found ≡ merged (merged long code) s.firsts
    → IsFirstOf found (breaches_of edition text)
whole_firsts edition text s long code found is longs codes all =
    rw (all, is, longs, codes, all_wrongs edition text)
    (merged_firsts _ _ _ _ (merged_firsts _ _ _ _ (first_of_all (flat_map long_line (lines_of text))) (first_of_all (breaches_from edition None (code_lines text))))
    (first_of_all (flat_map (over_cells (piece_breaches edition)) (runs_of (row_of text)))))
