-- What is said at a statement, by the numbers of statements and hosts.
use Rattle.std.proofs.Common.{◌≡◌, ℕ, suc, ◌+◌, ◌-◌, ◌≤◌, ◌<◌, Bool, true, false, ◌&&◌, List, [], ◌∷◌, ◌++◌, length, Option, Some, None, refl, sym, ap, ◌∙◌, subst, inl, inr, arith, append_assoc, append-nil, if◌then◌else◌}
use Rattle.std.specs.Prelude.{◌==◌, slice_get, ◌⊎◌}
use Rattle.std.specs.List.{filter, find, flat_map, range_with_len}
use Rattle.std.specs.Option.{option_and_then}
use Rattle.std.proofs.lemmas.Bool.Decides.{nat_tests}
use Rattle.std.proofs.lemmas.Option.{slice_get_within}
use Rattle.ftn_tree.specs.declared.mention.Mention.{Mention}
use Rattle.ftn_tree.specs.declared.table.Extent.{Extent}
use Rattle.ftn_tree.specs.declared.unit.FileTree.{FileTree}
use Rattle.ftn_tree.specs.Extents.{covers, encloses, scoping, scope_of, host_of, is_some_extent}
use Rattle.ftn_tree.specs.Projects.{AreTrees}
use Rattle.ftn_tree.specs.Sayings.{mentions_at, inner_mention, opened_at, inner_at, said_at}
use Rattle.ftn_tree.specs.Scopes.{host_number, scope_number}
use Rattle.decl_table.specs.steps.Following.{is_number}
use Rattle.decl_table.specs.steps.Rows.{Row, number_at, rows_of}
use Rattle.decl_table.specs.steps.Said.{inner_by, said_by, IsWithin}
use Rattle.decl_table.proofs.Order.{Each, Comes, Ordered, statements_in}
use Rattle.decl_table.proofs.Numbers.{last_from, last_found, number_is}
use Rattle.decl_table.proofs.Hosts.{before_it}
use Rattle.decl_table.proofs.Chains.{Split, none_of, last_split}
use Rattle.decl_table.proofs.Arounds.{There, ordered_units, last_there, stands_whole}
use Rattle.decl_table.proofs.OwnStatements.{number_of, told_apart, own_test, within_file}

-- ---- which extent opens at a statement

abbrev opens : ℕ → ℕ → Extent → Bool
opens file statement e = (e.file == file) && (e.opening == statement)

-- what opens there covers it
opens_covers : (file statement : ℕ) (e : Extent) → e.opening < e.ending → covers file statement e ≡ false → opens file statement e ≡ false
opens_covers file statement e order not_covered = by (opens file statement e) refl where
  by : (test : Bool) → opens file statement e ≡ test → opens file statement e ≡ false
  by true is =
      let covered : covers file statement e ≡ true = grind (arith, nat_tests) in
      absurd (cc (covered, not_covered))
  by false is = is

earlier_not : (file statement : ℕ) (p x : Extent) → Comes p x → x.file ≡ file → x.opening ≤ statement → opens file statement p ≡ false
earlier_not file statement p x (inl less) same order = grind (arith, nat_tests)
earlier_not file statement p x (inr (is, less, side)) same order = grind (arith, nat_tests)

opens_there : (file statement : ℕ) (x : Extent) → x.file ≡ file → (x.opening == statement) ≡ true → opens file statement x ≡ true
opens_there file statement x same is = grind (arith, nat_tests)

opens_not : (file statement : ℕ) (x : Extent) → (x.opening == statement) ≡ false → opens file statement x ≡ false
opens_not file statement x is = grind (arith, nat_tests)

covers_file : (file statement : ℕ) (x : Extent) → covers file statement x ≡ true → x.file ≡ file
covers_file file statement x is = grind (arith, nat_tests)

covers_from : (file statement : ℕ) (x : Extent) → covers file statement x ≡ true → x.opening ≤ statement
covers_from file statement x is = grind (arith, nat_tests)

-- none is found past those that pass no test
find_none : (count : ℕ → ℕ) (file statement : ℕ) (es : List Extent) → Ordered count es → filter (covers file statement) es ≡ [] → find (opens file statement) es ≡ None
find_none count file statement [] ordered none = refl
find_none count file statement (e ∷ es) (within, later, ordered) none =
    by (λ none. find_none count file statement es ordered none) (covers file statement e) refl none
  where
    by : (filter (covers file statement) es ≡ [] → find (opens file statement) es ≡ None) → (covered : Bool) → covers file statement e ≡ covered
        → filter (covers file statement) (e ∷ es) ≡ [] → find (opens file statement) (e ∷ es) ≡ None
    by rest true is none = absurd (cc (subst (λ b. (if b then e ∷ filter (covers file statement) es else filter (covers file statement) es) ≡ []) is none))
    by rest false is none =
        rw (opens_covers file statement e within.0 is) (rest (subst (λ b. (if b then e ∷ filter (covers file statement) es else filter (covers file statement) es) ≡ []) is none))

find_past : (file statement : ℕ) (a : List Extent) (x : Extent) (rest : List Extent) → Each (λ p. Comes p x) a → x.file ≡ file → x.opening ≤ statement
    → find (opens file statement) (a ++ x ∷ rest) ≡ find (opens file statement) (x ∷ rest)
find_past file statement [] x rest earlier same order = refl
find_past file statement (p ∷ a) x rest (first, earlier) same order =
    rw (earlier_not file statement p x first same order) (find_past file statement a x rest earlier same order)

rest_ordered : (count : ℕ → ℕ) (a es : List Extent) → Ordered count (a ++ es) → Ordered count es
rest_ordered count [] es ordered = ordered
rest_ordered count (p ∷ a) es (within, later, ordered) = rest_ordered count a es ordered

-- the innermost one that covers a statement is the only one that may open there
opened_is : (count : ℕ → ℕ) (file statement : ℕ) (es : List Extent) (x : Extent) → Ordered count es → Split (covers file statement) es x
    → find (opens file statement) es ≡ (if x.opening == statement then Some x else None)
opened_is count file statement es x ordered (a, b, is, covered, none) =
    let parts : Ordered count (a ++ x ∷ b) = subst (Ordered count) is ordered in
    ap (find (opens file statement)) is
    ∙ find_past file statement a x b (before_it count a x b parts) (covers_file file statement x covered) (covers_from file statement x covered)
    ∙ by ((rest_ordered count a (x ∷ b) parts).2) (x.opening == statement) refl
  where
    by : Ordered count b → (here : Bool) → (x.opening == statement) ≡ here → find (opens file statement) (x ∷ b) ≡ (if x.opening == statement then Some x else None)
    by after true same = rw (opens_there file statement x (covers_file file statement x covered) same, same) refl
    by after false same = rw (opens_not file statement x same, same) (find_none count file statement b after none)

-- ---- hosts

pub host_there : (files : List FileTree) (x h : Extent) → host_of files x ≡ Some h → (j : ℕ) × (slice_get (scoping files) j ≡ Some h)
host_there files x h found = by (last_split (encloses x.file x.opening) None h (scoping files) found) where
  at : (a : List Extent) (b : List Extent) → slice_get (a ++ h ∷ b) (length a) ≡ Some h
  at [] b = refl
  at (p ∷ a) b = at a b

  by : ((None ≡ Some h) × (filter (encloses x.file x.opening) (scoping files) ≡ [])) ⊎ Split (encloses x.file x.opening) (scoping files) h → (j : ℕ) × (slice_get (scoping files) j ≡ Some h)
  by (inl (is, none)) = absurd (cc is)
  by (inr (a, b, is, passes, none)) = (length a, ap (λ es. slice_get es (length a)) is ∙ at a b)

pub host_test : (files : List FileTree) → AreTrees files → (i : ℕ) (e x : Extent) → slice_get (scoping files) i ≡ Some e → is_number i (host_number files x) ≡ is_some_extent e (host_of files x)
host_test files are i e x here = by (host_there files x) (host_of files x) refl where
  by : ((h : Extent) → host_of files x ≡ Some h → (j : ℕ) × (slice_get (scoping files) j ≡ Some h)) → (found : Option Extent) → host_of files x ≡ found
      → is_number i (option_and_then (scope_number files) (host_of files x)) ≡ is_some_extent e (host_of files x)
  by there None is = rw is refl
  by there (Some h) is = let (j, at) = there h is in rw (is, number_of files are j h at) (told_apart files are i j e h here at)

-- ---- what is said there

inner_is : (files : List FileTree) → AreTrees files → (i : ℕ) (e : Extent) → slice_get (scoping files) i ≡ Some e → (statement : ℕ)
    → inner_by files i statement (scope_of files e.file statement) ≡ inner_at files e (opened_at files e.file statement)
inner_is files are i e here statement =
    by (λ none. none_of (covers e.file statement) None (scoping files) none) (λ x is. last_split (covers e.file statement) None x (scoping files) is) (scope_of files e.file statement) refl
  where
    with_inner : (x : Extent) → Split (covers e.file statement) (scoping files) x → inner_by files i statement (Some x) ≡ inner_at files e (opened_at files e.file statement)
    with_inner x split =
        at (x.opening == statement) refl
        ∙ ap (inner_at files e) (sym (opened_is (λ file. statements_in file files) e.file statement (scoping files) x (ordered_units files are) split))
      where
        at : (same : Bool) → (x.opening == statement) ≡ same → inner_by files i statement (Some x) ≡ inner_at files e (if x.opening == statement then Some x else None)
        at true is = rw is (ap (λ test. if test then inner_mention files x else []) (host_test files are i e x here))
        at false is = rw is refl

    chosen : (x : Extent) → ((None ≡ Some x) × (filter (covers e.file statement) (scoping files) ≡ [])) ⊎ Split (covers e.file statement) (scoping files) x
        → inner_by files i statement (Some x) ≡ inner_at files e (opened_at files e.file statement)
    chosen x (inl (is, none)) = absurd (cc is)
    chosen x (inr split) = with_inner x split

    by : (scope_of files e.file statement ≡ None → filter (covers e.file statement) (scoping files) ≡ [])
        → ((x : Extent) → scope_of files e.file statement ≡ Some x → ((None ≡ Some x) × (filter (covers e.file statement) (scoping files) ≡ [])) ⊎ Split (covers e.file statement) (scoping files) x)
        → (found : Option Extent) → scope_of files e.file statement ≡ found
        → inner_by files i statement (scope_of files e.file statement) ≡ inner_at files e (opened_at files e.file statement)
    by none some None is =
        rw is (ap (inner_at files e) (sym (find_none (λ file. statements_in file files) e.file statement (scoping files) (ordered_units files are) (none is))))
    by none some (Some x) is = ap (inner_by files i statement) is ∙ chosen x (some x is)

pub said_is : (files : List FileTree) → AreTrees files → (i : ℕ) (e : Extent) → slice_get (scoping files) i ≡ Some e → (statement : ℕ) → statement < statements_in e.file files
    → said_by files i e.file statement (number_at (rows_of files (scoping files)) e.file statement) ≡ said_at files e statement
said_is files are i e here statement less =
    ap (λ test. if test then mentions_at files e.file statement else inner_by files i statement (option_and_then (slice_get (scoping files)) (number_at (rows_of files (scoping files)) e.file statement)))
    (own_test files are i e here statement less)
    ∙ ap (λ (inner : List Mention). if is_some_extent e (scope_of files e.file statement) then mentions_at files e.file statement else inner)
    (ap (inner_by files i statement) stood ∙ inner_is files are i e here statement)
  where
    stood : option_and_then (slice_get (scoping files)) (number_at (rows_of files (scoping files)) e.file statement) ≡ scope_of files e.file statement
    stood =
        ap (option_and_then (slice_get (scoping files))) (number_is files (scoping files) e.file statement less)
        ∙ last_found (scoping files) 0 (covers e.file statement) (scoping files) None None (stands_whole (scoping files)) refl

-- ---- one statement after the other

stated : (whole : List Extent) (found : Option ℕ) → There whole found → IsWithin (length whole) found
stated whole None there = tt
stated whole (Some j) (x, is) = slice_get_within whole j x is

pub number_within : (files : List FileTree) → AreTrees files → (i : ℕ) (e : Extent) → slice_get (scoping files) i ≡ Some e → (statement : ℕ) → e.opening ≤ statement → statement ≤ e.ending
    → (statement < statements_in e.file files) × IsWithin (length (scoping files)) (number_at (rows_of files (scoping files)) e.file statement)
number_within files are i e here statement low high =
    let (order, end) = within_file files are i e here in
    let less : statement < statements_in e.file files = omega (arith, order, end, low, high) in (
      less,
      subst (IsWithin (length (scoping files))) (sym (number_is files (scoping files) e.file statement less))
          (stated (scoping files) (last_from 0 (covers e.file statement) None (scoping files))
          (last_there (scoping files) 0 (covers e.file statement) (scoping files) None (stands_whole (scoping files)) tt)),
    )

pub pushed_said : (files : List FileTree) → AreTrees files → (i : ℕ) (e : Extent) → slice_get (scoping files) i ≡ Some e → (statement : ℕ) → e.opening ≤ statement → statement ≤ e.ending
    → (rows : List Row) → rows ≡ rows_of files (scoping files) → said_by files i e.file statement (number_at rows e.file statement) ≡ said_at files e statement
pushed_said files are i e here statement low high rows is =
    ap (λ rows. said_by files i e.file statement (number_at rows e.file statement)) is
    ∙ said_is files are i e here statement ((number_within files are i e here statement low high).0)

pub flat_next : {A : Type 0} (f : ℕ → List A) (whole old new : List A) (at end : ℕ) → at < end → whole ≡ old ++ flat_map f (range_with_len at (end - at))
    → new ≡ old ++ f at → whole ≡ new ++ flat_map f (range_with_len (at + 1) (end - (at + 1)))
flat_next f whole old new at end less is made =
    is
    ∙ ap (λ n. old ++ flat_map f (range_with_len at n)) left
    ∙ sym (append_assoc old (f at) (flat_map f (range_with_len (at + 1) (end - (at + 1)))))
    ∙ ap (λ front. front ++ flat_map f (range_with_len (at + 1) (end - (at + 1)))) (sym made)
  where
    left : end - at ≡ suc (end - (at + 1))
    left = omega arith

pub flat_done : {A : Type 0} (f : ℕ → List A) (whole old : List A) (at end : ℕ) → end ≤ at → whole ≡ old ++ flat_map f (range_with_len at (end - at)) → old ≡ whole
flat_done f whole old at end past is =
    let none : end - at ≡ 0 = omega arith in
    sym (is ∙ ap (λ n. old ++ flat_map f (range_with_len at n)) none ∙ append-nil old)
