-- The statements of a file come in the order of their first tokens.
use Rattle.std.proofs.Common.{◌≡◌, ℕ, zero, suc, ◌+◌, ◌<◌, ◌≤◌, List, [], ◌∷◌, ◌++◌, map, length, get_or, Option, Some, None, slice_get, refl, sym, ap, ap₂, subst, ◌∙◌, arith}
use Rattle.std.specs.List.{All, AllByRecursion as Each}
use Rattle.std.specs.Option.{option_map_or}
use Rattle.ftn_base.specs.declared.place.Range.{Range}
use Rattle.std.proofs.lemmas.Option.{get_or_from_slice_get, slice_get_within}
use Rattle.ftn_tree.specs.declared.token.Token.{Token}
use Rattle.ftn_tree.specs.declared.token.Tokens.{Tokens}
use Rattle.ftn_tree.specs.declared.unit.FileTree.{FileTree}
use Rattle.ftn_tree.specs.declared.unit.Statement.{Statement}
use Rattle.ftn_tree.specs.FileFaults.{AreRead}
use Rattle.ftn_tree.specs.Projects.{AreTrees, IsSomeTree}
use Rattle.ftn_tree.specs.Reading.{ranges_from, range_if_some, rows_of, tokens_of}
use Rattle.ftn_tree.specs.Scopes.{first_token_at, statement_start}

-- each at least the one before it
abbrev Rise : ℕ → List ℕ → Type 0
Rise low [] = Unit {0}
Rise low (x ∷ xs) = (low ≤ x) × Rise x xs

rise_lower : (low lower : ℕ) (xs : List ℕ) → lower ≤ low → Rise low xs → Rise lower xs
rise_lower low lower [] le rise = tt
rise_lower low lower (x ∷ xs) le rise = (let above : low ≤ x = rise.0 in omega arith, rise.1)

above : (low : ℕ) (xs : List ℕ) (j : ℕ) → Rise low xs → j < length xs → low ≤ get_or xs j 0
above low [] j rise lt = absurd (omega arith)
above low (x ∷ xs) zero rise lt = rise.0
above low (x ∷ xs) (suc j) rise lt =
    let first : low ≤ x = rise.0 in
    let rest : x ≤ get_or xs j 0 = above x xs j rise.1 (omega arith) in
    omega arith

rise_at : (low : ℕ) (xs : List ℕ) (i j : ℕ) → Rise low xs → i ≤ j → j < length xs → get_or xs i 0 ≤ get_or xs j 0
rise_at low [] i j rise le lt = absurd (omega arith)
rise_at low (x ∷ xs) zero zero rise le lt = omega arith
rise_at low (x ∷ xs) zero (suc j) rise le lt = above x xs j rise.1 (omega arith)
rise_at low (x ∷ xs) (suc i) zero rise le lt = absurd (omega arith)
rise_at low (x ∷ xs) (suc i) (suc j) rise le lt = rise_at x xs i j rise.1 (omega arith) (omega arith)

starts : List Range → List ℕ
starts ranges = map (λ (range : Range). range.start) ranges

ranges_rise : (first : ℕ) (rows : List (List Token)) → Rise first (starts (ranges_from first rows))
unfolding starts
ranges_rise first [] = tt
ranges_rise first ([] ∷ rows) = rise_lower (first + 0) first (map (λ (range : Range). range.start) (ranges_from (first + 0) rows)) (omega arith) (ranges_rise (first + 0) rows)
ranges_rise first ((token ∷ more) ∷ rows) =
    (omega arith, rise_lower (first + suc (length more)) first (map (λ (range : Range). range.start) (ranges_from (first + suc (length more)) rows)) (omega arith) (ranges_rise (first + suc (length more)) rows))

statement_starts : List Statement → List ℕ
statement_starts statements = map (λ (s : Statement). s.tokens.start) statements

read_starts : (tokens : Tokens) (ranges : List Range) (statements : List Statement) → AreRead tokens ranges statements → statement_starts statements ≡ starts ranges
unfolding starts statement_starts
read_starts tokens [] [] read = refl
read_starts tokens [] (statement ∷ statements) read = absurd read
read_starts tokens (range ∷ ranges) [] read = absurd read
read_starts tokens (range ∷ ranges) (statement ∷ statements) read =
    ap₂ (λ (n : ℕ) ns. n ∷ ns) (ap (λ (r : Range). r.start) read.0.place) (read_starts tokens ranges statements read.1)

start_is : (statements : List Statement) (i : ℕ) → option_map_or (λ (s : Statement). s.tokens.start) (slice_get statements i) 0 ≡ get_or (statement_starts statements) i 0
unfolding statement_starts
start_is [] i = refl
start_is (s ∷ statements) zero = refl
start_is (s ∷ statements) (suc i) = start_is statements i

starts_long : (statements : List Statement) → length (statement_starts statements) ≡ length statements
unfolding statement_starts
starts_long [] = refl
starts_long (s ∷ statements) = ap suc (starts_long statements)

tree_rises : (tree : FileTree) (i j : ℕ) → IsSomeTree tree → i ≤ j → j < length tree.statements → statement_start i tree ≤ statement_start j tree
tree_rises tree i j some le lt =
    let text = some.1 in
    let are : statement_starts tree.statements ≡ starts (tokens_of text).statements = read_starts (tokens_of text) (tokens_of text).statements tree.statements some.3.1.read in
    let rise : Rise 0 (statement_starts tree.statements) = subst (λ ns. Rise 0 ns) (sym are) (ranges_rise 0 (rows_of text)) in
    let long : length (statement_starts tree.statements) ≡ length tree.statements = starts_long tree.statements in
    let ordered : get_or (statement_starts tree.statements) i 0 ≤ get_or (statement_starts tree.statements) j 0 = rise_at 0 (statement_starts tree.statements) i j rise le (omega arith) in
    let one = start_is tree.statements i in
    let other = start_is tree.statements j in
    omega arith

-- a later statement of a file doesn't begin before an earlier one
pub tokens_rise : (files : List FileTree) → AreTrees files → (file i j : ℕ) → i ≤ j → j < option_map_or (λ (tree : FileTree). length tree.statements) (slice_get files file) 0
    → first_token_at files file i ≤ first_token_at files file j
tokens_rise files are file i j le lt = by (slice_get files file) refl lt
  where
    by : (found : Option FileTree) → slice_get files file ≡ found → j < option_map_or (λ (tree : FileTree). length tree.statements) found 0
        → option_map_or (statement_start i) found 0 ≤ option_map_or (statement_start j) found 0
    by None at lt = absurd (omega arith)
    by (Some tree) at lt =
        tree_rises tree i j (subst IsSomeTree (get_or_from_slice_get files file tree tree at) (are.trees file tree (slice_get_within files file tree at))) le lt
