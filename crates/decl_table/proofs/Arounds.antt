-- What rows say of all extents: which one is around each, and which number it has.
use Rattle.std.proofs.Common.{◌≡◌, ℕ, zero, suc, ◌+◌, ◌≤◌, ◌<◌, ◌^◌, Bool, true, false, not, List, [], ◌∷◌, ◌++◌, length, Option, Some, None, map, refl, sym, ap, ◌∙◌, subst, arith, append_assoc, length-append}
use Rattle.std.specs.Prelude.{slice_get, count_by}
use Rattle.std.specs.List.{filter, position, flat_map, sum_by}
use Rattle.std.proofs.lemmas.List.{map-id}
use Rattle.std.proofs.lemmas.List.Sums.{count_by-le-length, length-filter, sum_by-append}
use Rattle.std.specs.Option.{option_and_then}
use Rattle.ftn_tree.specs.declared.table.Extent.{Extent}
use Rattle.ftn_tree.specs.declared.unit.FileTree.{FileTree}
use Rattle.ftn_tree.specs.Extents.{covers, encloses, same_extent, innermost, extents, extents_from, extents_in, scoping, scope_of, is_body, is_interface, is_some_interface}
use Rattle.ftn_tree.specs.Scopes.{host_number, scope_number}
use Rattle.ftn_tree.specs.Projects.{AreTrees, IsSomeTree}
use Rattle.decl_table.specs.steps.Located.{is_interface_number}
use Rattle.decl_table.specs.steps.Rows.{Row, number_at, with_extent, rows_after, around_after, empty_rows, around_of, rows_of}
use Rattle.decl_table.proofs.Order.{Each, Ordered, statements_in, extents_ordered, ordered_filter, each_of, tree_rises}
use Rattle.decl_table.proofs.Rising.{Rise}
use Rattle.decl_table.proofs.Numbers.{Stand, last_from, last_found, number_is}
use Rattle.decl_table.proofs.Hosts.{before_it, after_it, stands_in_front, around_found, position_is}

rows_pushed : (number : ℕ) (pre : List Extent) (e : Extent) (rows : List Row) → with_extent e (number + length pre) (rows_after number pre rows) ≡ rows_after number (pre ++ e ∷ []) rows
rows_pushed number [] e rows = ap (λ n. with_extent e n rows) (plus number) where
  plus : (number : ℕ) → number + 0 ≡ number
  plus number = omega arith
rows_pushed number (p ∷ pre) e rows = ap (λ n. with_extent e n (rows_after (number + 1) pre (with_extent p number rows))) (next number (length pre)) ∙ rows_pushed (number + 1) pre e (with_extent p number rows) where
  next : (number n : ℕ) → number + suc n ≡ number + 1 + n
  next number n = omega arith

module _ (files : List FileTree) (A : Type 0) (gives : Option ℕ → A) (wanted : Extent → A) (whole : List Extent)
    (each : (pre : List Extent) (e : Extent) (post : List Extent) → whole ≡ pre ++ e ∷ post → gives (number_at (rows_after 0 pre (empty_rows files)) e.file e.opening) ≡ wanted e) where
  around_each : (pre post : List Extent) (number : ℕ) (rows : List Row) → whole ≡ pre ++ post → 0 + length pre ≡ number → rows_after 0 pre (empty_rows files) ≡ rows
      → map gives (around_after number post rows) ≡ map wanted post
  around_each pre [] number rows is long are = refl
  around_each pre (e ∷ post) number rows is long are =
      let first : gives (number_at rows e.file e.opening) ≡ wanted e =
      ap (λ rows. gives (number_at rows e.file e.opening)) (sym are) ∙ each pre e post is in
      let rest : map gives (around_after (number + 1) post (with_extent e number rows)) ≡ map wanted post =
      around_each (pre ++ e ∷ []) post (number + 1) (with_extent e number rows) (is ∙ sym (append_assoc pre (e ∷ []) post))
      (omega (arith, length-append pre (e ∷ []))) (sym (rows_pushed 0 pre e (empty_rows files)) ∙ ap (λ n. with_extent e n (rows_after 0 pre (empty_rows files))) long ∙ ap (λ rows. with_extent e number rows) are) in
      ap (λ a. a ∷ map gives (around_after (number + 1) post (with_extent e number rows))) first ∙ ap (λ as'. wanted e ∷ as') rest

-- ---- numbers that extents have

abbrev pub There : List Extent → Option ℕ → Type 0
There whole None = Unit {0}
There whole (Some j) = (x : Extent) × (slice_get whole j ≡ Some x)

pub last_there : (whole : List Extent) (number : ℕ) (test : Extent → Bool) (es : List Extent) (found : Option ℕ) → Stand whole number es → There whole found → There whole (last_from number test found es)
last_there whole number test [] found stand there = there
last_there whole number test (e ∷ es) found stand there =
    by (λ now there. last_there whole (number + 1) test es now (λ k x is. ap (λ n. slice_get whole n) (next number k) ∙ stand (suc k) x is) there) (test e) refl
  where
    next : (number k : ℕ) → number + 1 + k ≡ number + suc k
    next number k = omega arith

    plus : (number : ℕ) → number ≡ number + 0
    plus number = omega arith

    by : ((now : Option ℕ) → There whole now → There whole (last_from (number + 1) test now es)) → (passes : Bool) → test e ≡ passes → There whole (last_from number test found (e ∷ es))
    by rest true passes = rw passes (rest (Some number) (e, ap (λ n. slice_get whole n) (plus number) ∙ stand 0 e refl))
    by rest false passes = rw passes (rest found there)

pub split_at : (whole : List Extent) (j : ℕ) (x : Extent) → slice_get whole j ≡ Some x → (a : List Extent) × (b : List Extent) × (whole ≡ a ++ x ∷ b) × (length a ≡ j)
split_at [] j x is = absurd (cc is)
split_at (e ∷ es) zero x is = ([], es, ap (λ (y : Extent). y ∷ es) (cc is), refl)
split_at (e ∷ es) (suc j) x is = let (a, b, whole, long) = split_at es j x is in (e ∷ a, b, ap (λ (ys : List Extent). e ∷ ys) whole, ap suc long)

pub number_back : (count : ℕ → ℕ) (whole : List Extent) → Ordered count whole → (n : Option ℕ) → There whole n
    → option_and_then (λ e. position (same_extent e) whole) (option_and_then (slice_get whole) n) ≡ n
number_back count whole ordered None there = refl
number_back count whole ordered (Some j) (x, is) =
    let (a, b, split, long) = split_at whole j x is in
    ap (option_and_then (λ e. position (same_extent e) whole)) is
    ∙ ap (λ es. position (same_extent x) es) split
    ∙ position_is a x b (before_it count a x b (subst (Ordered count) split ordered))
    ∙ ap Some long

-- ---- of a project

pub ordered_all : (files : List FileTree) → AreTrees files → Ordered (λ file. statements_in file files) (extents files)
ordered_all files are = extents_ordered files are.trees

pub ordered_units : (files : List FileTree) → AreTrees files → Ordered (λ file. statements_in file files) (scoping files)
ordered_units files are = ordered_filter (λ file. statements_in file files) (λ e. not (is_interface files e)) (extents files) (ordered_all files are)

-- the innermost one around an extent
around_in : (files : List FileTree) (whole pre : List Extent) (e : Extent) (post : List Extent) → Ordered (λ file. statements_in file files) whole → whole ≡ pre ++ e ∷ post
    → option_and_then (slice_get whole) (number_at (rows_after 0 pre (empty_rows files)) e.file e.opening) ≡ innermost (encloses e.file e.opening) whole
around_in files whole pre e post ordered split =
    subst (λ es. option_and_then (slice_get es) (number_at (rows_after 0 pre (empty_rows files)) e.file e.opening) ≡ innermost (encloses e.file e.opening) es) (sym split)
    (around_found files pre e post (subst (Ordered (λ file. statements_in file files)) split ordered))

number_there : (files : List FileTree) (whole pre : List Extent) (e : Extent) (post : List Extent) → Ordered (λ file. statements_in file files) whole → whole ≡ pre ++ e ∷ post
    → There whole (number_at (rows_after 0 pre (empty_rows files)) e.file e.opening)
number_there files whole pre e post ordered split =
    let (within, later) = after_it (λ file. statements_in file files) pre e post (subst (Ordered (λ file. statements_in file files)) split ordered) in
    subst (There whole) (sym (number_is files pre e.file e.opening (omega (arith, within.0, within.1))))
    (last_there whole 0 (covers e.file e.opening) pre None (subst (λ es. Stand es 0 pre) (sym split) (stands_in_front pre (e ∷ post))) tt)

pub bodies_are : (files : List FileTree) → AreTrees files → map (is_interface_number files (extents files)) (around_of files (extents files)) ≡ map (is_body files) (extents files)
bodies_are files are =
    around_each files Bool (is_interface_number files (extents files)) (is_body files) (extents files)
    (λ pre e post split. ap (is_some_interface files) (around_in files (extents files) pre e post (ordered_all files are) split))
    [] (extents files) 0 (empty_rows files) refl refl refl

pub hosts_are : (files : List FileTree) → AreTrees files → around_of files (scoping files) ≡ map (host_number files) (scoping files)
hosts_are files are =
    sym (map-id (around_of files (scoping files)))
    ∙ around_each files (Option ℕ) (λ number. number) (host_number files) (scoping files)
    (λ pre e post split.
    sym (number_back (λ file. statements_in file files) (scoping files) (ordered_units files are) (number_at (rows_after 0 pre (empty_rows files)) e.file e.opening)
    (number_there files (scoping files) pre e post (ordered_units files are) split))
    ∙ ap (option_and_then (scope_number files)) (around_in files (scoping files) pre e post (ordered_units files are) split))
    [] (scoping files) 0 (empty_rows files) refl refl refl

-- ---- the scoping unit of a statement

pub stands_whole : (whole : List Extent) → Stand whole 0 whole
stands_whole whole k e there = ap (λ n. slice_get whole n) (zero_plus k) ∙ there where
  zero_plus : (k : ℕ) → 0 + k ≡ k
  zero_plus k = omega arith

pub statement_scope : (files : List FileTree) → AreTrees files → (file statement : ℕ) → statement < statements_in file files
    → number_at (rows_of files (scoping files)) file statement ≡ option_and_then (scope_number files) (scope_of files file statement)
statement_scope files are file statement less =
    number_is files (scoping files) file statement less
    ∙ sym (number_back (λ file. statements_in file files) (scoping files) (ordered_units files are) (last_from 0 (covers file statement) None (scoping files))
    (last_there (scoping files) 0 (covers file statement) (scoping files) None (stands_whole (scoping files)) tt))
    ∙ ap (option_and_then (scope_number files)) (last_found (scoping files) 0 (covers file statement) (scoping files) None None (stands_whole (scoping files)) refl)

-- that scoping unit is one of the project's
pub scope_there : (files : List FileTree) → AreTrees files → (file statement : ℕ) → statement < statements_in file files → (x : Extent) → scope_of files file statement ≡ Some x
    → (j : ℕ) × (slice_get (scoping files) j ≡ Some x)
scope_there files are file statement less x found = by (last_from 0 (covers file statement) None (scoping files))
    (last_there (scoping files) 0 (covers file statement) (scoping files) None (stands_whole (scoping files)) tt)
    (last_found (scoping files) 0 (covers file statement) (scoping files) None None (stands_whole (scoping files)) refl ∙ found)
  where
    by : (n : Option ℕ) → There (scoping files) n → option_and_then (slice_get (scoping files)) n ≡ Some x → (j : ℕ) × (slice_get (scoping files) j ≡ Some x)
    by None there is = absurd (cc is)
    by (Some j) there is = (j, is)

-- ---- how many there are

rise_count : (file low high : ℕ) (es : List Extent) → Rise file low high es → low + length es ≤ high
rise_count file low high [] rise = omega arith
rise_count file low high (e ∷ es) (is, first, order, last, beside, more) =
    let rest : e.opening + 1 + length es ≤ high = rise_count file (e.opening + 1) high es more in omega arith

counted : (file : ℕ) (trees : List FileTree) → Each IsSomeTree trees → length (extents_from file trees) ≤ sum_by (λ (tree : FileTree). length tree.statements) trees
counted file [] all = omega arith
counted file (tree ∷ trees) (here, all) =
    let one : 0 + length (flat_map (extents_in file) tree.units) ≤ length tree.statements = rise_count file 0 (length tree.statements) (flat_map (extents_in file) tree.units) (tree_rises file tree here) in
    let rest : length (extents_from (file + 1) trees) ≤ sum_by (λ (tree : FileTree). length tree.statements) trees = counted (file + 1) trees all in
    let both : length (extents_from file (tree ∷ trees)) ≡ length (flat_map (extents_in file) tree.units) + length (extents_from (file + 1) trees) = length-append (flat_map (extents_in file) tree.units) (extents_from (file + 1) trees) in
    let sum : sum_by (λ (tree : FileTree). length tree.statements) (tree ∷ trees) ≡ sum_by (λ (tree : FileTree). length tree.statements) (tree ∷ []) + sum_by (λ (tree : FileTree). length tree.statements) trees = sum_by-append (λ (tree : FileTree). length tree.statements) (tree ∷ []) trees in
    let first : sum_by (λ (tree : FileTree). length tree.statements) (tree ∷ []) ≡ 0 + length tree.statements = refl in
    omega (arith, one, rest, both, sum, first)

pub extents_few : (files : List FileTree) → AreTrees files → length (extents files) < 2 ^ 32
extents_few files are =
    let few : length (extents_from 0 files) ≤ sum_by (λ (tree : FileTree). length tree.statements) files = counted 0 files (each_of IsSomeTree files are.trees) in
    let small : sum_by (λ (tree : FileTree). length tree.statements) files < 2 ^ 28 = are.small in
    omega (arith, few, small)

pub units_few : (files : List FileTree) → AreTrees files → length (scoping files) < 2 ^ 32
units_few files are =
    let few : length (extents files) < 2 ^ 32 = extents_few files are in
    let fewer : length (scoping files) ≤ length (extents files) = filter_short (λ e. not (is_interface files e)) (extents files) in
    omega (arith, few, fewer)
  where
    filter_short : (test : Extent → Bool) (es : List Extent) → length (filter test es) ≤ length es
    filter_short test es =
        let count : length (filter test es) ≡ count_by test es = length-filter test es in
        let most : count_by test es ≤ length es = count_by-le-length test es in
        omega (arith, count, most)

-- ---- of lists that are known to be these

pub bodies_said : (files : List FileTree) → AreTrees files → (painted all other : List Extent) (around : List (Option ℕ)) (bodies : List Bool)
    → painted ≡ extents files → all ≡ extents files → other ≡ extents files → around ≡ around_of files painted → bodies ≡ map (is_interface_number files all) around
    → bodies ≡ map (is_body files) other
bodies_said files are painted all other around bodies is one two painting told =
    told
    ∙ ap (λ es. map (is_interface_number files es) around) one
    ∙ ap (map (is_interface_number files (extents files))) (painting ∙ ap (around_of files) is)
    ∙ bodies_are files are
    ∙ ap (map (is_body files)) (sym two)
