-- The numbers in rows are those of the last extents that cover the statements.
use Rattle.std.proofs.Common.{◌≡◌, ℕ, zero, suc, ◌+◌, ◌<◌, Bool, true, false, ◌&&◌, List, [], ◌∷◌, length, set, Option, Some, None, refl, sym, ap, ◌∙◌, subst, inl, inr, arith, if◌then◌else◌}
use Rattle.std.specs.Prelude.{nat_le, slice_get}
use Rattle.std.specs.List.{filter, last_or}
use Rattle.std.specs.Option.{option_map_or, option_and_then}
use Rattle.std.proofs.lemmas.Bool.{cases_eq}
use Rattle.std.proofs.lemmas.List.{length-replicate}
use Rattle.std.proofs.lemmas.Bool.Decides.{nat_tests}
use Rattle.ftn_tree.specs.declared.table.Extent.{Extent}
use Rattle.ftn_tree.specs.declared.unit.FileTree.{FileTree}
use Rattle.ftn_tree.specs.Extents.{covers}
use Rattle.decl_table.specs.steps.Rows.{Row, number_in, number_at, painted_from, painted, unpainted, empty_rows, with_extent, rows_after}
use Rattle.decl_table.proofs.Painting.{painted_long}
use Rattle.decl_table.proofs.Order.{statements_in}

-- ---- one row

number_painted : (at low ending number s : ℕ) (row : Row) → s < length row
    → number_in s (painted_from at low ending number row) ≡ (if nat_le low (at + s) && nat_le (at + s) ending then Some number else number_in s row)
number_painted at low ending number s [] less = absurd (omega arith)
number_painted at low ending number zero (here ∷ rest) less = rw (plus at) refl where
  plus : (at : ℕ) → at + 0 ≡ at
  plus at = omega arith
number_painted at low ending number (suc s) (here ∷ rest) less =
    number_painted (at + 1) low ending number s rest (omega arith)
    ∙ ap (λ k. if nat_le low k && nat_le k ending then Some number else number_in s rest) (next at s)
  where
    next : (at s : ℕ) → at + 1 + s ≡ at + suc s
    next at s = omega arith

-- ---- all rows

abbrev pub row_at : List Row → ℕ → Row
row_at rows file = option_map_or (λ row. row) (slice_get rows file) []

pub number_of_row : (rows : List Row) (file statement : ℕ) → number_at rows file statement ≡ number_in statement (row_at rows file)
number_of_row [] file statement = refl
number_of_row (row ∷ rows) zero statement = refl
number_of_row (row ∷ rows) (suc file) statement = number_of_row rows file statement

abbrev changed : ℕ → (Row → Row) → List Row → List Row
changed file change rows = option_map_or (λ row. set rows file (change row)) (slice_get rows file) rows

changed_same : (file : ℕ) (change : Row → Row) (rows : List Row) → change [] ≡ [] → row_at (changed file change rows) file ≡ change (row_at rows file)
changed_same file change [] none = sym none
changed_same zero change (row ∷ rows) none = refl
changed_same (suc file) change (row ∷ rows) none = by (slice_get rows file) ∙ changed_same file change rows none where
  by : (found : Option Row) → row_at (option_map_or (λ row'. set (row ∷ rows) (suc file) (change row')) found (row ∷ rows)) (suc file)
      ≡ row_at (option_map_or (λ row'. set rows file (change row')) found rows) file
  by None = refl
  by (Some row') = refl

changed_other : (file other : ℕ) (change : Row → Row) (rows : List Row) → (file ≡ other → ⊥) → row_at (changed file change rows) other ≡ row_at rows other
changed_other file other change [] apart = refl
changed_other zero zero change (row ∷ rows) apart = absurd (apart refl)
changed_other zero (suc other) change (row ∷ rows) apart = refl
changed_other (suc file) zero change (row ∷ rows) apart = by (slice_get rows file) where
  by : (found : Option Row) → row_at (option_map_or (λ row'. set (row ∷ rows) (suc file) (change row')) found (row ∷ rows)) zero ≡ row
  by None = refl
  by (Some row') = refl
changed_other (suc file) (suc other) change (row ∷ rows) apart =
    by (slice_get rows file) ∙ changed_other file other change rows (λ same. apart (ap suc same))
  where
    by : (found : Option Row) → row_at (option_map_or (λ row'. set (row ∷ rows) (suc file) (change row')) found (row ∷ rows)) (suc other)
        ≡ row_at (option_map_or (λ row'. set rows file (change row')) found rows) other
    by None = refl
    by (Some row') = refl

same_file : (e : Extent) (file statement : ℕ) → e.file ≡ file → covers file statement e ≡ (nat_le e.opening statement && nat_le statement e.ending)
same_file e file statement same = grind (arith, nat_tests)

other_file : (e : Extent) (file statement : ℕ) → (e.file ≡ file → ⊥) → covers file statement e ≡ false
other_file e file statement apart = grind (arith, nat_tests)

changed_at : (at file : ℕ) (change : Row → Row) (rows : List Row) → at ≡ file → change [] ≡ [] → row_at (changed at change rows) file ≡ change (row_at rows file)
changed_at at file change rows same none = subst (λ f. row_at (changed at change rows) f ≡ change (row_at rows f)) same (changed_same at change rows none)

pub number_with : (e : Extent) (number : ℕ) (rows : List Row) (file statement : ℕ) → statement < length (row_at rows file)
    → number_at (with_extent e number rows) file statement ≡ (if covers file statement e then Some number else number_at rows file statement)
number_with e number rows file statement less = elim (cases_eq e.file file) [
  | inl same ↦
      number_of_row (with_extent e number rows) file statement
      ∙ ap (number_in statement) (changed_at e.file file (λ row. painted e.opening e.ending number row) rows same refl)
      ∙ number_painted 0 e.opening e.ending number statement (row_at rows file) less
      ∙ ap (λ k. if nat_le e.opening k && nat_le k e.ending then Some number else number_in statement (row_at rows file)) (zero_plus statement)
      ∙ ap (λ test. if test then Some number else number_in statement (row_at rows file)) (sym (same_file e file statement same))
      ∙ ap (λ here. if covers file statement e then Some number else here) (sym (number_of_row rows file statement))
  | inr apart ↦
      number_of_row (with_extent e number rows) file statement
      ∙ ap (number_in statement) (changed_other e.file file (λ row. painted e.opening e.ending number row) rows apart)
      ∙ sym (number_of_row rows file statement)
      ∙ ap (λ test. if test then Some number else number_at rows file statement) (sym (other_file e file statement apart))
]
  where
    zero_plus : (k : ℕ) → 0 + k ≡ k
    zero_plus k = omega arith

pub row_long : (e : Extent) (number : ℕ) (rows : List Row) (file : ℕ) → length (row_at (with_extent e number rows) file) ≡ length (row_at rows file)
row_long e number rows file = elim (cases_eq e.file file) [
  | inl same ↦
      ap length (changed_at e.file file (λ row. painted e.opening e.ending number row) rows same refl)
      ∙ painted_long 0 e.opening e.ending number (row_at rows file)
  | inr apart ↦ ap length (changed_other e.file file (λ row. painted e.opening e.ending number row) rows apart)
]

-- ---- all extents

-- the number of the last that passes, where the first has this number
abbrev pub last_from : ℕ → (Extent → Bool) → Option ℕ → List Extent → Option ℕ
last_from number test found [] = found
last_from number test found (e ∷ es) = last_from (number + 1) test (if test e then Some number else found) es

pub number_after : (number : ℕ) (es : List Extent) (rows : List Row) (file statement : ℕ) → statement < length (row_at rows file)
    → number_at (rows_after number es rows) file statement ≡ last_from number (covers file statement) (number_at rows file statement) es
number_after number [] rows file statement less = refl
number_after number (e ∷ es) rows file statement less =
    number_after (number + 1) es (with_extent e number rows) file statement (subst (λ n. statement < n) (sym (row_long e number rows file)) less)
    ∙ ap (λ found. last_from (number + 1) (covers file statement) found es) (number_with e number rows file statement less)

-- ---- which extent it is

abbrev pub Stand : List Extent → ℕ → List Extent → Type 0
Stand whole number es = (k : ℕ) (e : Extent) → slice_get es k ≡ Some e → slice_get whole (number + k) ≡ Some e

pub last_found : (whole : List Extent) (number : ℕ) (test : Extent → Bool) (es : List Extent) (found : Option ℕ) (extent : Option Extent)
    → Stand whole number es → option_and_then (slice_get whole) found ≡ extent
    → option_and_then (slice_get whole) (last_from number test found es) ≡ last_or extent (filter test es)
last_found whole number test [] found extent stand is = is
last_found whole number test (e ∷ es) found extent stand is =
    by (λ now extent is. last_found whole (number + 1) test es now extent (λ k x there. ap (λ n. slice_get whole n) (next number k) ∙ stand (suc k) x there) is) (test e) refl
  where
    next : (number k : ℕ) → number + 1 + k ≡ number + suc k
    next number k = omega arith

    plus : (number : ℕ) → number ≡ number + 0
    plus number = omega arith

    by : ((now : Option ℕ) (extent : Option Extent) → option_and_then (slice_get whole) now ≡ extent → option_and_then (slice_get whole) (last_from (number + 1) test now es) ≡ last_or extent (filter test es))
        → (passes : Bool) → test e ≡ passes
        → option_and_then (slice_get whole) (last_from number test found (e ∷ es)) ≡ last_or extent (filter test (e ∷ es))
    by rest true passes = rw passes (rest (Some number) (Some e) (ap (λ n. slice_get whole n) (plus number) ∙ stand 0 e refl))
    by rest false passes = rw passes (rest found extent is)

-- ---- rows at the start

empty_long : (files : List FileTree) (file : ℕ) → length (row_at (empty_rows files) file) ≡ statements_in file files
empty_long [] file = refl
empty_long (tree ∷ files) zero = length-replicate (length tree.statements) None
empty_long (tree ∷ files) (suc file) = empty_long files file

none_in : (count s : ℕ) → number_in s (unpainted count) ≡ None
none_in zero s = refl
none_in (suc count) zero = refl
none_in (suc count) (suc s) = none_in count s

empty_none : (files : List FileTree) (file statement : ℕ) → number_at (empty_rows files) file statement ≡ None
empty_none [] file statement = refl
empty_none (tree ∷ files) zero statement = none_in (length tree.statements) statement
empty_none (tree ∷ files) (suc file) statement = empty_none files file statement

-- the number of a statement that a file has
pub number_is : (files : List FileTree) (es : List Extent) (file statement : ℕ) → statement < statements_in file files
    → number_at (rows_after 0 es (empty_rows files)) file statement ≡ last_from 0 (covers file statement) None es
number_is files es file statement less =
    number_after 0 es (empty_rows files) file statement (subst (λ n. statement < n) (sym (empty_long files file)) less)
    ∙ ap (λ found. last_from 0 (covers file statement) found es) (empty_none files file statement)
