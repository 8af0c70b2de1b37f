-- Which extents are right around which, by their numbers among all of a project.
use Rattle.std.proofs.Common.{◌≡◌, ℕ, zero, suc, ◌+◌, ◌≤◌, ◌<◌, Bool, true, false, ◌&&◌, not, List, [], ◌∷◌, ◌++◌, length, map, if◌then◌else◌, Option, Some, None, inl, inr, refl, sym, ap, ◌∙◌, subst, arith, append_assoc, length-append}
use Rattle.std.specs.Prelude.{◌==◌, slice_get}
use Rattle.std.specs.List.{filter, last_or, position}
use Rattle.std.specs.Option.{option_and_then}
use Rattle.std.proofs.lemmas.Bool.{cases_eq}
use Rattle.std.proofs.lemmas.Bool.Decides.{nat_tests}
use Rattle.std.proofs.lemmas.List.{map-id}
use Rattle.ftn_tree.specs.declared.table.Extent.{Extent}
use Rattle.ftn_tree.specs.declared.unit.FileTree.{FileTree}
use Rattle.ftn_tree.specs.Extents.{covers, encloses, same_extent, is_some_extent, host_of, innermost, extents, scoping, scope_of, is_interface}
use Rattle.ftn_tree.specs.Projects.{AreTrees}
use Rattle.ftn_tree.specs.Scopes.{scope_number}
use Rattle.decl_table.specs.steps.Following.{is_number}
use Rattle.decl_table.specs.steps.Rows.{Row, number_at, with_extent, rows_after, around_after, empty_rows, around_of, rows_of}
use Rattle.decl_table.proofs.Arounds.{There, last_there, number_back, ordered_all, scope_there, split_at, stands_whole, statement_scope}
use Rattle.decl_table.proofs.Hosts.{before_it, after_it, stands_in_front, around_found, position_is}
use Rattle.decl_table.proofs.Numbers.{Stand, last_from, last_found, number_is}
use Rattle.decl_table.proofs.Order.{Each, Comes, Within, Ordered, statements_in}
use Rattle.decl_table.proofs.OwnStatements.{number_of, same_fields, same_self, told_apart}
use Rattle.name_types.specs.steps.Generics.{around_number}

-- ---- the number of the innermost one around each

rows_pushed : (number : ℕ) (pre : List Extent) (e : Extent) (rows : List Row) → with_extent e (number + length pre) (rows_after number pre rows) ≡ rows_after number (pre ++ e ∷ []) rows
rows_pushed number [] e rows = ap (λ n. with_extent e n rows) (plus number) where
  plus : (number : ℕ) → number + 0 ≡ number
  plus number = omega arith
rows_pushed number (p ∷ pre) e rows = ap (λ n. with_extent e n (rows_after (number + 1) pre (with_extent p number rows))) (next number (length pre)) ∙ rows_pushed (number + 1) pre e (with_extent p number rows) where
  next : (number n : ℕ) → number + suc n ≡ number + 1 + n
  next number n = omega arith

module _ (files : List FileTree) (A : Type 0) (gives : Option ℕ → A) (wanted : Extent → A) (whole : List Extent)
    (each : (pre : List Extent) (e : Extent) (post : List Extent) → whole ≡ pre ++ e ∷ post → gives (number_at (rows_after 0 pre (empty_rows files)) e.file e.opening) ≡ wanted e) where
  around_each : (pre post : List Extent) (number : ℕ) (rows : List Row) → whole ≡ pre ++ post → 0 + length pre ≡ number → rows_after 0 pre (empty_rows files) ≡ rows
      → map gives (around_after number post rows) ≡ map wanted post
  around_each pre [] number rows is long are = refl
  around_each pre (e ∷ post) number rows is long are =
      let first : gives (number_at rows e.file e.opening) ≡ wanted e =
      ap (λ rows. gives (number_at rows e.file e.opening)) (sym are) ∙ each pre e post is in
      let rest : map gives (around_after (number + 1) post (with_extent e number rows)) ≡ map wanted post =
      around_each (pre ++ e ∷ []) post (number + 1) (with_extent e number rows) (is ∙ sym (append_assoc pre (e ∷ []) post))
      (omega (arith, length-append pre (e ∷ []))) (sym (rows_pushed 0 pre e (empty_rows files)) ∙ ap (λ n. with_extent e n (rows_after 0 pre (empty_rows files))) long ∙ ap (λ rows. with_extent e number rows) are) in
      ap (λ a. a ∷ map gives (around_after (number + 1) post (with_extent e number rows))) first ∙ ap (λ as'. wanted e ∷ as') rest

around_in : (files : List FileTree) (whole pre : List Extent) (e : Extent) (post : List Extent) → Ordered (λ file. statements_in file files) whole → whole ≡ pre ++ e ∷ post
    → option_and_then (slice_get whole) (number_at (rows_after 0 pre (empty_rows files)) e.file e.opening) ≡ innermost (encloses e.file e.opening) whole
around_in files whole pre e post ordered split =
    subst (λ es. option_and_then (slice_get es) (number_at (rows_after 0 pre (empty_rows files)) e.file e.opening) ≡ innermost (encloses e.file e.opening) es) (sym split)
    (around_found files pre e post (subst (Ordered (λ file. statements_in file files)) split ordered))

number_there : (files : List FileTree) (whole pre : List Extent) (e : Extent) (post : List Extent) → Ordered (λ file. statements_in file files) whole → whole ≡ pre ++ e ∷ post
    → There whole (number_at (rows_after 0 pre (empty_rows files)) e.file e.opening)
number_there files whole pre e post ordered split =
    let (within, later) = after_it (λ file. statements_in file files) pre e post (subst (Ordered (λ file. statements_in file files)) split ordered) in
    subst (There whole) (sym (number_is files pre e.file e.opening (omega (arith, within.0, within.1))))
    (last_there whole 0 (covers e.file e.opening) pre None (subst (λ es. Stand es 0 pre) (sym split) (stands_in_front pre (e ∷ post))) tt)

pub arounds_are : (files : List FileTree) → AreTrees files → around_of files (extents files) ≡ map (around_number files) (extents files)
arounds_are files are =
    sym (map-id (around_of files (extents files)))
    ∙ around_each files (Option ℕ) (λ number. number) (around_number files) (extents files)
    (λ pre e post split.
    sym (number_back (λ file. statements_in file files) (extents files) (ordered_all files are) (number_at (rows_after 0 pre (empty_rows files)) e.file e.opening)
    (number_there files (extents files) pre e post (ordered_all files are) split))
    ∙ ap (option_and_then (λ around. position (same_extent around) (extents files))) (around_in files (extents files) pre e post (ordered_all files are) split))
    [] (extents files) 0 (empty_rows files) refl refl refl

-- ---- extents by their numbers

-- the innermost that passes is there
pub innermost_there : (test : Extent → Bool) (whole : List Extent) (x : Extent) → innermost test whole ≡ Some x → (j : ℕ) × (slice_get whole j ≡ Some x)
innermost_there test whole x is = by (last_from 0 test None whole) (last_found whole 0 test whole None None (stands_whole whole) refl ∙ is) where
  by : (n : Option ℕ) → option_and_then (slice_get whole) n ≡ Some x → (j : ℕ) × (slice_get whole j ≡ Some x)
  by None is = absurd (cc is)
  by (Some j) is = (j, is)

place_of : (files : List FileTree) → AreTrees files → (i : ℕ) (e : Extent) → slice_get (extents files) i ≡ Some e → position (same_extent e) (extents files) ≡ Some i
place_of files are i e there =
    let (a, b, split, long) = split_at (extents files) i e there in
    ap (λ es. position (same_extent e) es) split
    ∙ position_is a e b (before_it (λ file. statements_in file files) a e b (subst (Ordered (λ file. statements_in file files)) split (ordered_all files are)))
    ∙ ap Some long

same_place : (files : List FileTree) (e x : Extent) → same_extent e x ≡ true → position (same_extent e) (extents files) ≡ position (same_extent x) (extents files)
same_place files e x is =
    let (file, opening) = same_fields e x is in
    ap (λ f. position (λ (other : Extent). (f == other.file) && (e.opening == other.opening)) (extents files)) file
    ∙ ap (λ n. position (λ (other : Extent). (x.file == other.file) && (n == other.opening)) (extents files)) opening

equal_numbers : (j i : ℕ) → j ≡ i → (j == i) ≡ true
equal_numbers j i same = grind (arith, nat_tests)

other_numbers : (j i : ℕ) → (j ≡ i → ⊥) → (j == i) ≡ false
other_numbers j i apart = grind (arith, nat_tests)

places_apart : (files : List FileTree) → AreTrees files → (i j : ℕ) (e x : Extent) → slice_get (extents files) i ≡ Some e → slice_get (extents files) j ≡ Some x
    → (j == i) ≡ same_extent e x
places_apart files are i j e x here there = elim (cases_eq j i) [
  | inl same ↦
      let one : x ≡ e = cc (there, here, same) in equal_numbers j i same ∙ sym (same_self e) ∙ ap (same_extent e) (sym one)
  | inr apart ↦ other_numbers j i apart ∙ sym (by apart (same_extent e x) refl)
]
  where
    by : (j ≡ i → ⊥) → (same : Bool) → same_extent e x ≡ same → same_extent e x ≡ false
    by apart true is =
        let numbers : Some i ≡ Some j = sym (place_of files are i e here) ∙ same_place files e x is ∙ place_of files are j x there in
        absurd (apart (cc numbers))
    by apart false is = is

-- the extent of that number is the innermost around
pub around_test : (files : List FileTree) → AreTrees files → (i : ℕ) (around e : Extent) → slice_get (extents files) i ≡ Some around
    → is_number i (around_number files e) ≡ is_some_extent around (innermost (encloses e.file e.opening) (extents files))
around_test files are i around e here =
    by (innermost_there (encloses e.file e.opening) (extents files)) (innermost (encloses e.file e.opening) (extents files)) refl
  where
    by : ((x : Extent) → innermost (encloses e.file e.opening) (extents files) ≡ Some x → (j : ℕ) × (slice_get (extents files) j ≡ Some x)) → (found : Option Extent)
        → innermost (encloses e.file e.opening) (extents files) ≡ found
        → is_number i (around_number files e) ≡ is_some_extent around (innermost (encloses e.file e.opening) (extents files))
    by there None is = rw is refl
    by there (Some x) is =
        let (j, at) = there x is in
        rw (is, place_of files are j x at) (places_apart files are i j around x here at)

-- ---- scoping units by the numbers of statements

-- the statement stands in the scoping unit of that number
pub scope_test : (files : List FileTree) → AreTrees files → (i : ℕ) (e : Extent) → slice_get (scoping files) i ≡ Some e → (file statement : ℕ) → statement < statements_in file files
    → is_number i (number_at (rows_of files (scoping files)) file statement) ≡ is_some_extent e (scope_of files file statement)
scope_test files are i e here file statement less =
    ap (is_number i) (statement_scope files are file statement less) ∙ by (scope_there files are file statement less) (scope_of files file statement) refl
  where
    by : ((x : Extent) → scope_of files file statement ≡ Some x → (j : ℕ) × (slice_get (scoping files) j ≡ Some x)) → (found : Option Extent) → scope_of files file statement ≡ found
        → is_number i (option_and_then (scope_number files) (scope_of files file statement)) ≡ is_some_extent e (scope_of files file statement)
    by there None is = rw is refl
    by there (Some x) is =
        let (j, at) = there x is in
        rw (is, number_of files are j x at) (told_apart files are i j e x here at)

-- a scoping unit that is another one
pub same_unit : (files : List FileTree) → AreTrees files → (i j : ℕ) (e x : Extent) → slice_get (scoping files) i ≡ Some e → slice_get (scoping files) j ≡ Some x
    → same_extent e x ≡ true → x ≡ e
same_unit files are i j e x here there same =
    let equal : j ≡ i = same_numbers j i (told_apart files are i j e x here there ∙ same) in cc (there, here, equal)
  where
    same_numbers : (j i : ℕ) → (j == i) ≡ true → j ≡ i
    same_numbers j i is = grind (arith, nat_tests)

-- ---- one inside the other

at_each : {A : Type 0} (P : A → Type 0) (xs : List A) (k : ℕ) (x : A) → Each P xs → slice_get xs k ≡ Some x → P x
at_each P [] k x all is = absurd (cc is)
at_each P (y ∷ xs) zero x all is = subst P (cc is) all.0
at_each P (y ∷ xs) (suc k) x all is = at_each P xs k x all.1 is

-- what begins inside another one ends there
ends_inside : (count : ℕ → ℕ) (es : List Extent) (i j : ℕ) (e x : Extent) → Ordered count es → slice_get es i ≡ Some e → slice_get es j ≡ Some x
    → e.file ≡ x.file → e.opening < x.opening → x.opening ≤ e.ending → x.ending < e.ending
ends_inside count [] i j e x ordered here there same after before = absurd (cc here)
ends_inside count (y ∷ es) zero zero e x ordered here there same after before =
    let one : e ≡ x = cc (here, there) in absurd (omega (arith, ap (λ (z : Extent). z.opening) one, after))
ends_inside count (y ∷ es) zero (suc j) e x (within, later, more) here there same after before =
    let one : y ≡ e = cc here in by (subst (λ z. Comes z x) one (at_each (Comes y) es j x later there)) where
      by : Comes e x → x.ending < e.ending
      by (inl less) = absurd (omega (arith, same, less))
      by (inr (file, less, inl inside)) = inside
      by (inr (file, less, inr past)) = absurd (omega (arith, before, past))
ends_inside count (y ∷ es) (suc i) zero e x (within, later, more) here there same after before =
    let one : y ≡ x = cc there in by (subst (λ z. Comes z e) one (at_each (Comes y) es i e later here)) where
      by : Comes x e → x.ending < e.ending
      by (inl less) = absurd (omega (arith, same, less))
      by (inr (file, less, side)) = absurd (omega (arith, less, after))
ends_inside count (y ∷ es) (suc i) (suc j) e x (within, later, more) here there same after before =
    ends_inside count es i j e x more here there same after before

-- one of those that pass is one of all
pub one_of_all : {A : Type 0} (test : A → Bool) (xs : List A) (n : ℕ) (x : A) → slice_get (filter test xs) n ≡ Some x → (k : ℕ) × (slice_get xs k ≡ Some x)
one_of_all test [] n x is = absurd (cc is)
one_of_all {A} test (y ∷ xs) n x is = by (test y) n is (λ n is. one_of_all test xs n x is) where
  later : (k : ℕ) × (slice_get xs k ≡ Some x) → (k : ℕ) × (slice_get (y ∷ xs) k ≡ Some x)
  later (k, there) = (suc k, there)

  by : (b : Bool) (n : ℕ) → slice_get (if b then y ∷ filter test xs else filter test xs) n ≡ Some x → ((n : ℕ) → slice_get (filter test xs) n ≡ Some x → (k : ℕ) × (slice_get xs k ≡ Some x))
      → (k : ℕ) × (slice_get (y ∷ xs) k ≡ Some x)
  by true zero is rest = (0, is)
  by true (suc n) is rest = later (rest n is)
  by false n is rest = later (rest n is)

pub unit_ends : (files : List FileTree) → AreTrees files → (i j : ℕ) (e x : Extent) → slice_get (scoping files) i ≡ Some e → slice_get (extents files) j ≡ Some x
    → e.file ≡ x.file → e.opening < x.opening → x.opening ≤ e.ending → x.ending < e.ending
unit_ends files are i j e x here there =
    let (k, at) = one_of_all (λ e. not (is_interface files e)) (extents files) i e here in
    ends_inside (λ file. statements_in file files) (extents files) k j e x (ordered_all files are) at there

pub extent_within : (files : List FileTree) → AreTrees files → (i : ℕ) (e : Extent) → slice_get (extents files) i ≡ Some e → Within (λ file. statements_in file files) e
extent_within files are i e here =
    let (a, b, split, long) = split_at (extents files) i e here in
    (after_it (λ file. statements_in file files) a e b (subst (Ordered (λ file. statements_in file files)) split (ordered_all files are))).0

-- a scoping unit is around what it is the host of
pub inside_host : (files : List FileTree) → AreTrees files → (n : ℕ) (e x : Extent) → slice_get (scoping files) n ≡ Some e → is_some_extent e (host_of files x) ≡ true
    → (e.file ≡ x.file) × (e.opening < x.opening) × (x.opening ≤ e.ending)
inside_host files are n e x here hosted = by (host_of files x) refl hosted where
  passing : (test : Extent → Bool) (es : List Extent) (k : ℕ) (y : Extent) → slice_get (filter test es) k ≡ Some y → test y ≡ true
  passing test [] k y is = absurd (cc is)
  passing test (z ∷ es) k y is = pick (test z) refl k is (λ k is. passing test es k y is) where
    pick : (b : Bool) → test z ≡ b → (k : ℕ) → slice_get (if b then z ∷ filter test es else filter test es) k ≡ Some y → ((k : ℕ) → slice_get (filter test es) k ≡ Some y → test y ≡ true) → test y ≡ true
    pick true its zero is rest = ap test (some_is is) ∙ its where
      some_is : Some z ≡ Some y → y ≡ z
      some_is is = cc is
    pick true its (suc k) is rest = rest k is
    pick false its k is rest = rest k is

  last_passes : (test : Extent → Bool) (es : List Extent) (y : Extent) → innermost test es ≡ Some y → test y ≡ true
  last_passes test es y is = let (k, there) = innermost_there (λ z. true) (filter test es) y (kept (filter test es) ∙ is) in passing test es k y there where
    all_kept : (ys : List Extent) → filter (λ z. true) ys ≡ ys
    all_kept [] = refl
    all_kept (z ∷ ys) = ap (λ zs. z ∷ zs) (all_kept ys)

    kept : (ys : List Extent) → innermost (λ z. true) ys ≡ last_or None ys
    kept ys = ap (last_or None) (all_kept ys)

  parts : (y : Extent) → encloses x.file x.opening y ≡ true → (y.file ≡ x.file) × (y.opening < x.opening) × (x.opening ≤ y.ending)
  parts y is = (grind (arith, nat_tests), grind (arith, nat_tests), grind (arith, nat_tests))

  by : (o : Option Extent) → host_of files x ≡ o → is_some_extent e o ≡ true → (e.file ≡ x.file) × (e.opening < x.opening) × (x.opening ≤ e.ending)
  by None is same = absurd (cc same)
  by (Some y) is same =
      let (j, there) = innermost_there (encloses x.file x.opening) (scoping files) y is in
      let one : y ≡ e = same_unit files are n j e y here there same in
      parts e (subst (λ z. encloses x.file x.opening z ≡ true) one (last_passes (encloses x.file x.opening) (scoping files) y is))
