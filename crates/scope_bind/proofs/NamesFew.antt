-- A project has no more occurrences of names than tokens.
use Rattle.std.proofs.Common.{◌≡◌, ℕ, zero, suc, ◌+◌, ◌-◌, ◌≤◌, ◌<◌, ◌^◌, Bool, List, [], ◌∷◌, ◌++◌, length, length-append, map, take, drop, Option, Some, None, option_map, refl, sym, ap, ap₂, subst, ◌∙◌, arith, inl, inr}
use Rattle.std.specs.Prelude.{slice_get}
use Rattle.std.specs.List.{enumerate_from, flat_map, range_with_len, sum_by}
use Rattle.std.specs.Option.{option_map_or, option_and_then}
use Rattle.std.proofs.lemmas.List.{length-map}
use Rattle.std.proofs.lemmas.List.Sums.{sum_by-cons}
use Rattle.ftn_base.specs.declared.place.Range.{Range}
use Rattle.ftn_tree.specs.declared.form.Form.{Form}
use Rattle.ftn_tree.specs.declared.mention.Mention.{Mention}
use Rattle.ftn_tree.specs.declared.token.Token.{Token}
use Rattle.ftn_tree.specs.declared.token.Tokens.{Tokens}
use Rattle.ftn_tree.specs.declared.unit.FileTree.{FileTree}
use Rattle.ftn_tree.specs.declared.unit.Statement.{Statement}
use Rattle.ftn_tree.specs.DeclaredEntities.{occurrence, occurrences_in, occurrences_of}
use Rattle.ftn_tree.specs.Extents.{form_in, form_at}
use Rattle.ftn_tree.specs.FileFaults.{row_in, IsRead, AreRead}
use Rattle.ftn_tree.specs.Mentions.{mentions_of}
use Rattle.ftn_tree.specs.Projects.{AreTrees, IsSomeTree}
use Rattle.ftn_tree.specs.Reading.{rows_of, range_if_some, ranges_from, tokens_of}
use Rattle.ftn_tree.specs.RowNames.{AreNames, has_letters, names_in}
use Rattle.ftn_tree.specs.Sayings.{mentions_at}
use Rattle.ftn_tree.proofs.StatementNames.{statement_names}
use Rattle.decl_table.proofs.Order.{Each, each_of}
use Rattle.scope_bind.proofs.Totals.{total, total_same, total_flat, range_list}
use Rattle.scope_bind.proofs.StatementTotals.{of_file, whole}

-- ---- one statement

row_names : (letters : Bool) (at : ℕ) (row : List Token) (numbers : List ℕ) → AreNames letters at row numbers → length numbers ≤ length row
row_names letters at [] numbers are = by (ap length are) where
  by : length numbers ≡ 0 → length numbers ≤ 0
  by none = omega (arith, none)
row_names letters at (here ∷ rest) numbers (inl (others, word, is, more)) =
    let one : length numbers ≡ suc (length others) = ap length is in
    let less : length others ≤ length rest = row_names letters (at + 1) rest others more in
    omega (arith, one, less)
row_names letters at (here ∷ rest) numbers (inr (apart, more)) =
    let less : length numbers ≤ length rest = row_names letters (at + 1) rest numbers more in omega (arith, less)

taken_short : {X : Type 0} (n : ℕ) (xs : List X) → length (take n xs) ≤ n
taken_short zero xs = omega arith
taken_short (suc n) [] = omega arith
taken_short (suc n) (x ∷ xs) = let rest : length (take n xs) ≤ n = taken_short n xs in omega (arith, rest)

abbrev names_of : Statement → ℕ
names_of statement = length (mentions_of statement.form)

abbrev tokens_in : Range → ℕ
tokens_in range = range.end - range.start

statement_few : (tokens : Tokens) (range : Range) (statement : Statement) → IsRead tokens range statement → names_of statement ≤ tokens_in range
statement_few tokens range statement read =
    let same : length (names_in statement.form) ≡ names_of statement = length-map (mentions_of statement.form) (λ (m : Mention). m.token) in
    let names : length (names_in statement.form) ≤ length (row_in tokens range) =
    row_names (has_letters statement.form) range.start (row_in tokens range) (names_in statement.form) (statement_names statement.form range.start (row_in tokens range) read.says) in
    let row : length (row_in tokens range) ≤ tokens_in range = taken_short (tokens_in range) (drop range.start tokens.items) in
    omega (arith, same, names, row)

-- ---- one file

statements_few : (tokens : Tokens) (ranges : List Range) (statements : List Statement) → AreRead tokens ranges statements → total names_of statements ≤ total tokens_in ranges
statements_few tokens [] [] read = omega arith
statements_few tokens [] (statement ∷ statements) read = absurd read
statements_few tokens (range ∷ ranges) [] read = absurd read
statements_few tokens (range ∷ ranges) (statement ∷ statements) (here, read) =
    let first : names_of statement ≤ tokens_in range = statement_few tokens range statement here in
    let rest : total names_of statements ≤ total tokens_in ranges = statements_few tokens ranges statements read in
    omega (arith, first, rest)

ranges_all : (first : ℕ) (rows : List (List Token)) → total tokens_in (ranges_from first rows) ≡ length (flat_map (λ row. row) rows)
ranges_all first [] = refl
ranges_all first ([] ∷ rows) = ap (λ n. total tokens_in (ranges_from n rows)) (plus first) ∙ ranges_all first rows where
  plus : (first : ℕ) → first + 0 ≡ first
  plus first = omega arith
ranges_all first ((token ∷ more) ∷ rows) =
    let rest : total tokens_in (ranges_from (first + suc (length more)) rows) ≡ length (flat_map (λ row. row) rows) = ranges_all (first + suc (length more)) rows in
    let both : length (more ++ flat_map (λ row. row) rows) ≡ length more + length (flat_map (λ row. row) rows) = length-append more (flat_map (λ row. row) rows) in
    omega (arith, rest, both)

tree_few : (tree : FileTree) → IsSomeTree tree → total names_of tree.statements ≤ length tree.tokens.items
tree_few tree (edition, text, short, (clean, is)) =
    let names : total names_of tree.statements ≤ total tokens_in (tokens_of text).statements = statements_few (tokens_of text) (tokens_of text).statements tree.statements is.read in
    let all : total tokens_in (tokens_of text).statements ≡ length (tokens_of text).items = ranges_all 0 (rows_of text) in
    let same : length tree.tokens.items ≡ length (tokens_of text).items = ap (λ (tokens : Tokens). length tokens.items) is.tokens_are in
    omega (arith, names, all, same)

-- ---- a project

abbrev pub names_at : List FileTree → ℕ → ℕ → ℕ
names_at files file statement = length (mentions_at files file statement)

file_names : (files : List FileTree) (file : ℕ) (tree : FileTree) → slice_get files file ≡ Some tree → of_file (names_at files) (file, tree) ≡ total names_of tree.statements
file_names files file tree there =
    ap (λ o. total (λ statement. length (option_map_or mentions_of (option_and_then (form_in statement) o) [])) (range_with_len 0 (length tree.statements))) there
    ∙ range_list of_statement (slice_get tree.statements) tree.statements 0 (λ i. ap (slice_get tree.statements) (zero_plus i))
  where
    of_statement : Option Statement → ℕ
    of_statement found = length (option_map_or mentions_of (option_map (λ (s : Statement). s.form) found) [])

    zero_plus : (k : ℕ) → 0 + k ≡ k
    zero_plus k = omega arith

files_few : (files : List FileTree) (k : ℕ) (trees : List FileTree) → ((i : ℕ) → slice_get files (k + i) ≡ slice_get trees i) → Each IsSomeTree trees
    → total (of_file (names_at files)) (enumerate_from k trees) ≤ sum_by (λ (tree : FileTree). length tree.tokens.items) trees
files_few files k [] are all = omega arith
files_few files k (tree ∷ trees) are (here, all) =
    let same : of_file (names_at files) (k, tree) ≡ total names_of tree.statements = file_names files k tree (ap (slice_get files) (plus k) ∙ are 0) in
    let first : total names_of tree.statements ≤ length tree.tokens.items = tree_few tree here in
    let rest : total (of_file (names_at files)) (enumerate_from (k + 1) trees) ≤ sum_by (λ (tree : FileTree). length tree.tokens.items) trees =
    files_few files (k + 1) trees (λ i. ap (slice_get files) (next k i) ∙ are (suc i)) all in
    let sum : sum_by (λ (tree : FileTree). length tree.tokens.items) (tree ∷ trees) ≡ length tree.tokens.items + sum_by (λ (tree : FileTree). length tree.tokens.items) trees =
    sum_by-cons (λ (tree : FileTree). length tree.tokens.items) tree trees in
    omega (arith, same, first, rest, sum)
  where
    plus : (k : ℕ) → k ≡ k + 0
    plus k = omega arith

    next : (k i : ℕ) → k + 1 + i ≡ k + suc i
    next k i = omega arith

pub names_few : (files : List FileTree) → AreTrees files → whole files (names_at files) < 2 ^ 28
names_few files are =
    let less : whole files (names_at files) ≤ sum_by (λ (tree : FileTree). length tree.tokens.items) files =
    files_few files 0 files (λ i. ap (slice_get files) (zero_plus i)) (each_of IsSomeTree files are.trees) in
    let short : sum_by (λ (tree : FileTree). length tree.tokens.items) files < 2 ^ 28 = are.short in
    omega (arith, less, short)
  where
    zero_plus : (k : ℕ) → 0 + k ≡ k
    zero_plus k = omega arith

-- what each mention of a project gives
pub each_mention : {A : Type 0} (files : List FileTree) (f : ℕ → ℕ → Mention → A)
    → length (flat_map (λ (one : ℕ × FileTree). flat_map (λ statement. map (f one.0 statement) (mentions_at files one.0 statement)) (range_with_len 0 (length one.1.statements))) (enumerate_from 0 files))
    ≡ whole files (names_at files)
each_mention {A} files f = total_flat of_one (enumerate_from 0 files) ∙ total_same (λ numbered. length (of_one numbered)) (of_file (names_at files)) each (enumerate_from 0 files) where
  of_one : ℕ × FileTree → List A
  of_one one = flat_map (λ statement. map (f one.0 statement) (mentions_at files one.0 statement)) (range_with_len 0 (length one.1.statements))

  each : (numbered : ℕ × FileTree) → length (of_one numbered) ≡ of_file (names_at files) numbered
  each numbered =
      total_flat (λ statement. map (f numbered.0 statement) (mentions_at files numbered.0 statement)) (range_with_len 0 (length numbered.1.statements))
      ∙ total_same (λ statement. length (map (f numbered.0 statement) (mentions_at files numbered.0 statement))) (names_at files numbered.0)
      (λ statement. length-map (mentions_at files numbered.0 statement) (f numbered.0 statement)) (range_with_len 0 (length numbered.1.statements))

pub occurrences_count : (files : List FileTree) → length (occurrences_of files) ≡ whole files (names_at files)
occurrences_count files = each_mention files (occurrence files)
