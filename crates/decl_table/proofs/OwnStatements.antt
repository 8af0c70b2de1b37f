-- The statements of a scoping unit by the number in their rows.
use Rattle.std.proofs.Common.{◌≡◌, ℕ, zero, suc, ◌+◌, ◌-◌, ◌≤◌, ◌<◌, Bool, true, false, ◌&&◌, List, [], ◌∷◌, ◌++◌, Option, Some, None, refl, sym, ap, ◌∙◌, subst, inl, inr, arith, append_assoc, append-nil, if◌then◌else◌}
use Rattle.std.specs.Prelude.{◌==◌, slice_get}
use Rattle.std.specs.List.{position}
use Rattle.std.specs.Option.{option_and_then}
use Rattle.std.proofs.lemmas.Bool.Decides.{nat_tests}
use Rattle.ftn_tree.specs.declared.table.Extent.{Extent}
use Rattle.ftn_tree.specs.Extents.{same_extent, is_some_extent}
use Rattle.decl_table.specs.steps.Following.{is_number, own_by}
use Rattle.std.specs.List.{filter, range_with_len}
use Rattle.std.proofs.lemmas.Bool.{cases_eq}
use Rattle.ftn_tree.specs.declared.unit.FileTree.{FileTree}
use Rattle.ftn_tree.specs.Extents.{scoping, scope_of}
use Rattle.ftn_tree.specs.Scopes.{scope_number, own_statements}
use Rattle.ftn_tree.specs.Projects.{AreTrees}
use Rattle.decl_table.specs.steps.Rows.{number_at, rows_of}
use Rattle.decl_table.proofs.Order.{Within, Ordered, statements_in}
use Rattle.decl_table.proofs.Hosts.{before_it, after_it, position_is}
use Rattle.decl_table.proofs.Arounds.{ordered_units, statement_scope, scope_there, split_at}

pub number_of : (files : List FileTree) → AreTrees files → (i : ℕ) (e : Extent) → slice_get (scoping files) i ≡ Some e → scope_number files e ≡ Some i
number_of files are i e there =
    let (a, b, split, long) = split_at (scoping files) i e there in
    ap (λ es. position (same_extent e) es) split
    ∙ position_is a e b (before_it (λ file. statements_in file files) a e b (subst (Ordered (λ file. statements_in file files)) split (ordered_units files are)))
    ∙ ap Some long

pub same_fields : (e x : Extent) → same_extent e x ≡ true → (e.file ≡ x.file) × (e.opening ≡ x.opening)
same_fields e x is = (grind (arith, nat_tests), grind (arith, nat_tests))

pub same_number : (files : List FileTree) (e x : Extent) → same_extent e x ≡ true → scope_number files e ≡ scope_number files x
same_number files e x is =
    let (file, opening) = same_fields e x is in
    ap (λ f. position (λ (other : Extent). (f == other.file) && (e.opening == other.opening)) (scoping files)) file
    ∙ ap (λ n. position (λ (other : Extent). (x.file == other.file) && (n == other.opening)) (scoping files)) opening

equal_numbers : (j i : ℕ) → j ≡ i → (j == i) ≡ true
equal_numbers j i same = grind (arith, nat_tests)

other_numbers : (j i : ℕ) → (j ≡ i → ⊥) → (j == i) ≡ false
other_numbers j i apart = grind (arith, nat_tests)

pub same_self : (e : Extent) → same_extent e e ≡ true
same_self e = grind (arith, nat_tests)

-- an extent of that number is another one exactly where its number is another
pub told_apart : (files : List FileTree) → AreTrees files → (i j : ℕ) (e x : Extent) → slice_get (scoping files) i ≡ Some e → slice_get (scoping files) j ≡ Some x
    → (j == i) ≡ same_extent e x
told_apart files are i j e x here there = elim (cases_eq j i) [
  | inl same ↦
      let one : x ≡ e = cc (there, here, same) in equal_numbers j i same ∙ sym (same_self e) ∙ ap (same_extent e) (sym one)
  | inr apart ↦ other_numbers j i apart ∙ sym (by apart (same_extent e x) refl)
]
  where
    by : (j ≡ i → ⊥) → (same : Bool) → same_extent e x ≡ same → same_extent e x ≡ false
    by apart true is =
        let numbers : Some i ≡ Some j = sym (number_of files are i e here) ∙ same_number files e x is ∙ number_of files are j x there in
        absurd (apart (cc numbers))
    by apart false is = is

-- the statement stands in the scoping unit of that number
pub own_test : (files : List FileTree) → AreTrees files → (i : ℕ) (e : Extent) → slice_get (scoping files) i ≡ Some e → (statement : ℕ) → statement < statements_in e.file files
    → is_number i (number_at (rows_of files (scoping files)) e.file statement) ≡ is_some_extent e (scope_of files e.file statement)
own_test files are i e here statement less =
    ap (is_number i) (statement_scope files are e.file statement less) ∙ by (scope_there files are e.file statement less) (scope_of files e.file statement) refl
  where
    by : ((x : Extent) → scope_of files e.file statement ≡ Some x → (j : ℕ) × (slice_get (scoping files) j ≡ Some x)) → (found : Option Extent) → scope_of files e.file statement ≡ found
        → is_number i (option_and_then (scope_number files) (scope_of files e.file statement)) ≡ is_some_extent e (scope_of files e.file statement)
    by there None is = rw is refl
    by there (Some x) is =
        let (j, at) = there x is in
        rw (is, number_of files are j x at) (told_apart files are i j e x here at)

same_filter : (f g : ℕ → Bool) (a n : ℕ) → ((k : ℕ) → a ≤ k → k < a + n → f k ≡ g k) → filter f (range_with_len a n) ≡ filter g (range_with_len a n)
same_filter f g a zero same = refl
same_filter f g a (suc n) same =
    rw (same a (omega arith) (omega arith))
    (ap (λ (more : List ℕ). if g a then a ∷ more else more) (same_filter f g (a + 1) n (λ k low high. same k (omega arith) (omega arith))))

pub within_file : (files : List FileTree) → AreTrees files → (i : ℕ) (e : Extent) → slice_get (scoping files) i ≡ Some e → Within (λ file. statements_in file files) e
within_file files are i e here =
    let (a, b, split, long) = split_at (scoping files) i e here in
    (after_it (λ file. statements_in file files) a e b (subst (Ordered (λ file. statements_in file files)) split (ordered_units files are))).0

pub own_are : (files : List FileTree) → AreTrees files → (i : ℕ) (e : Extent) → slice_get (scoping files) i ≡ Some e
    → own_by i e (rows_of files (scoping files)) ≡ own_statements files e
own_are files are i e here =
    let (order, end) = within_file files are i e here in
    same_filter (λ statement. is_number i (number_at (rows_of files (scoping files)) e.file statement)) (λ statement. is_some_extent e (scope_of files e.file statement))
    e.opening (e.ending + 1 - e.opening) (λ k low high. own_test files are i e here k (omega (arith, order, end, low, high)))

-- ---- one statement after the other

pub own_next : (test : ℕ → Bool) (whole old new : List ℕ) (at end : ℕ) → at < end → whole ≡ old ++ filter test (range_with_len at (end - at))
    → new ≡ old ++ (if test at then at ∷ [] else []) → whole ≡ new ++ filter test (range_with_len (at + 1) (end - (at + 1)))
own_next test whole old new at end less is made =
    is
    ∙ ap (λ n. old ++ filter test (range_with_len at n)) left
    ∙ ap (λ (more : List ℕ). old ++ more) (by (test at))
    ∙ sym (append_assoc old (if test at then at ∷ [] else []) (filter test (range_with_len (at + 1) (end - (at + 1)))))
    ∙ ap (λ (front : List ℕ). front ++ filter test (range_with_len (at + 1) (end - (at + 1)))) (sym made)
  where
    left : end - at ≡ suc (end - (at + 1))
    left = omega arith

    by : (passes : Bool) → (if passes then at ∷ filter test (range_with_len (at + 1) (end - (at + 1))) else filter test (range_with_len (at + 1) (end - (at + 1))))
        ≡ (if passes then at ∷ [] else []) ++ filter test (range_with_len (at + 1) (end - (at + 1)))
    by true = refl
    by false = refl

pub own_done : (test : ℕ → Bool) (whole old : List ℕ) (at end : ℕ) → end ≤ at → whole ≡ old ++ filter test (range_with_len at (end - at)) → old ≡ whole
own_done test whole old at end past is =
    let none : end - at ≡ 0 = omega arith in
    sym (is ∙ ap (λ n. old ++ filter test (range_with_len at n)) none ∙ append-nil old)
