-- Ranges of CASE values as they are kept meet exactly where the ranges do.
use Rattle.std.proofs.Common.{◌≡◌, ℕ, ◌+◌, ◌-◌, ◌<◌, ◌≤◌, ℤ, pos, negsuc, suc, ◌+ℤ◌, w32, FitsSigned, Bool, true, false, not, cond, ◌&&◌, ◌||◌, List, [], ◌∷◌, ◌++◌, filter, map, length, take, get_or, Option, Some, None, option_map, refl, sym, subst, ap, ap₂, ◌∙◌, arith}
use Rattle.std.specs.Prelude.{nat_lt, int_lt}
use Rattle.std.specs.List.{flat_map, list_any}
use Rattle.std.proofs.lemmas.Bool.Decides.{nat_tests}
use Rattle.std.proofs.lemmas.Int.{ints}
use Rattle.std.proofs.lemmas.List.{map-append, take_more}
use Rattle.std.proofs.lemmas.List.Concat.{flat_map-append}
use Rattle.std.proofs.lemmas.List.{append-nil}
use Rattle.ftn_base.specs.declared.fault.FaultKind.TheVariants.{Conflicting}
use Rattle.ftn_tree.specs.declared.expr.Expr.{Expr}
use Rattle.ftn_tree.specs.declared.unit.FileTree.{FileTree}
use Rattle.ftn_tree.specs.Arrays.{at_least_zero}
use Rattle.ftn_tree.specs.Cases as spec
use Rattle.ftn_tree.specs.Cases.{Construct, is_select_at}
use Rattle.ftn_tree.specs.Evaluations.{Evaluated}
use Rattle.ftn_tree.specs.Extents.{layer_at}
use Rattle.ftn_tree.specs.DeclarationFaults.{Finding, found}
use Rattle.ftn_tree.specs.GlobalNames.{place}
use Rattle.const_expr.specs.FirstTold.{itself}
use Rattle.const_value.specs.declared.intervals.Span.{Span}
use Rattle.const_value.specs.steps.Cases.{lifted, low_of, high_of, Fits, IsKept, AreKept, ListsAreKept, spans_at, construct_told}
use Rattle.const_value.specs.steps.Findings.{earlier, gathered}
use Rattle.const_value.specs.steps.Intervals.{least, meets, met, tokens_meeting}
use Rattle.const_value.proofs.FirstFindings.{gathered_after}
use Rattle.const_value.proofs.ToldFirst.{by_token, soonest_is}

-- ---- ends

zero_or_more : (n : ℕ) (z : ℤ) → z ≡ pos n → pos (at_least_zero z) ≡ z
zero_or_more n z is = ap (λ x. pos (at_least_zero x)) is ∙ sym is

above_least : (z : ℤ) → FitsSigned w32 z → (n : ℕ) × (z +ℤ pos 2147483648 ≡ pos n)
above_least (pos m) fits = (m + 2147483648, refl)
above_least (negsuc m) fits =
    let small : m < 2147483648 = omega (arith, ints) in
    (2147483648 - suc m, omega (arith, ints))

lifted_is : (z : ℤ) → FitsSigned w32 z → pos (lifted z) ≡ z +ℤ pos 2147483648
lifted_is z fits = let h = above_least z fits in zero_or_more h.0 (z +ℤ pos 2147483648) h.1

both_lifted : (a b : ℤ) → int_lt (a +ℤ pos 2147483648) (b +ℤ pos 2147483648) ≡ int_lt a b
both_lifted a b = grind (arith, ints)

lifted_less : (a b : ℤ) → FitsSigned w32 a → FitsSigned w32 b → nat_lt (lifted a) (lifted b) ≡ int_lt a b
lifted_less a b one other = ap₂ int_lt (lifted_is a one) (lifted_is b other) ∙ both_lifted a b

never_past : (z : ℤ) → FitsSigned w32 z → nat_lt 4294967295 (lifted z) ≡ false
never_past z fits =
    let is : pos (lifted z) ≡ z +ℤ pos 2147483648 = lifted_is z fits in
    let most : lifted z ≤ 4294967295 = omega (arith, ints, is, fits) in
    grind (arith, nat_tests)

past_is : (low high : Option ℤ) → Fits low → Fits high → nat_lt (high_of high) (low_of low) ≡ spec.is_past low high
past_is None high one other = grind (arith, nat_tests)
past_is (Some low) None one other = never_past low one
past_is (Some low) (Some high) one other = lifted_less high low other one

meets_is : (s t : spec.Span) (k l : Span) → IsKept s k → IsKept t l → meets k l ≡ spec.meets s t
meets_is s t k l one other =
    ap₂ meets one.same other.same ∙ ap₂ (λ a b. not a && not b) (past_is s.low t.high one.low other.high) (past_is t.low s.high other.low one.high)

-- ---- lists of ranges

any_is : (s : spec.Span) (k : Span) → IsKept s k → (before : List spec.Span) (kept : List Span) → AreKept before kept → list_any (meets k) kept ≡ list_any (spec.meets s) before
any_is s k is [] [] all = refl
any_is s k is [] (l ∷ kept) all = absurd all
any_is s k is (t ∷ before) [] all = absurd all
any_is s k is (t ∷ before) (l ∷ kept) all = ap₂ ◌||◌ (meets_is s t k l is all.0) (any_is s k is before kept all.1)

pub joined : (xs : List spec.Span) (ks : List Span) (ys : List spec.Span) (ls : List Span) → AreKept xs ks → AreKept ys ls → AreKept (xs ++ ys) (ks ++ ls)
joined [] [] ys ls one other = other
joined [] (k ∷ ks) ys ls one other = absurd one
joined (x ∷ xs) [] ys ls one other = absurd one
joined (x ∷ xs) (k ∷ ks) ys ls one other = (one.0, joined xs ks ys ls one.1 other)

abbrev pub conflict : ℕ → ℕ → Finding
conflict file token = found Conflicting (place file token)

tokens_are : (file : ℕ) (before : List spec.Span) (kept : List Span) → AreKept before kept → (here : List spec.Span) (ks : List Span) → AreKept here ks
    → map (conflict file) (tokens_meeting kept ks) ≡ map (λ (s : spec.Span). conflict file s.first) (filter (λ s. list_any (spec.meets s) before) here)
tokens_are file before kept all [] [] these = refl
tokens_are file before kept all [] (k ∷ ks) these = absurd these
tokens_are file before kept all (s ∷ here) [] these = absurd these
tokens_are file before kept all (s ∷ here) (k ∷ ks) these =
    ap (λ t. map (conflict file) (map (λ (s : Span). s.token) (cond t (k ∷ filter (λ s. list_any (meets s) kept) ks) (filter (λ s. list_any (meets s) kept) ks))))
    (any_is s k these.0 before kept all)
    ∙ by (list_any (spec.meets s) before) (tokens_are file before kept all here ks these.1)
  where
    by : (t : Bool) → map (conflict file) (tokens_meeting kept ks) ≡ map (λ (s : spec.Span). conflict file s.first) (filter (λ s. list_any (spec.meets s) before) here)
        → map (conflict file) (map (λ (s : Span). s.token) (cond t (k ∷ filter (λ s. list_any (meets s) kept) ks) (filter (λ s. list_any (meets s) kept) ks)))
        ≡ map (λ (s : spec.Span). conflict file s.first) (cond t (s ∷ filter (λ s. list_any (spec.meets s) before) here) (filter (λ s. list_any (spec.meets s) before) here))
    by true rest = ap₂ (λ token more. conflict file token ∷ more) (ap (λ (k : Span). k.token) these.0.same) rest
    by false rest = rest

pub met_is : (file : ℕ) (before : List spec.Span) (kept : List Span) → AreKept before kept → (lists : List (List spec.Span)) (ks : List (List Span)) → ListsAreKept lists ks
    → map (conflict file) (met kept ks) ≡ spec.met file before lists
met_is file before kept all [] [] these = refl
met_is file before kept all [] (k ∷ ks) these = absurd these
met_is file before kept all (here ∷ lists) [] these = absurd these
met_is file before kept all (here ∷ lists) (k ∷ ks) these =
    map-append (conflict file) (tokens_meeting kept k) (met (kept ++ k) ks)
    ∙ ap₂ (λ (xs ys : List Finding). xs ++ ys) (tokens_are file before kept all here k these.0) (met_is file (before ++ here) (kept ++ k) (joined before kept here k all these.0) lists ks these.1)

-- ---- the first of the tokens

pub first_conflict : (first : Option Finding) (file : ℕ) (tokens : List ℕ) → earlier first (option_map (conflict file) (least tokens)) ≡ gathered first (map (conflict file) tokens)
first_conflict first file tokens =
    ap (earlier first) (soonest_is itself (conflict file) (λ a b. by_token file b a) tokens) ∙ sym (gathered_after first (map (conflict file) tokens))

-- ---- one more range, and one more list of them

pub range_more : {X : Type 0} (f : X → List spec.Span) (xs : List X) (at : ℕ) (x : X) (kept made one : List Span) → at < length xs → x ≡ get_or xs at x
    → AreKept (flat_map f (take at xs)) kept → AreKept (f x) one → made ≡ kept ++ one → AreKept (flat_map f (take (at + 1) xs)) made
range_more f xs at x kept made one less is all these e =
    subst (λ ks. AreKept (flat_map f (take (at + 1) xs)) ks) (sym e)
    (subst (λ ys. AreKept ys (kept ++ one)) (sym more) (joined (flat_map f (take at xs)) kept (f x) one all these))
  where
    more : flat_map f (take (at + 1) xs) ≡ flat_map f (take at xs) ++ f x
    more =
        ap (flat_map f) (take_more xs at x less) ∙ flat_map-append f (take at xs) (get_or xs at x ∷ [])
        ∙ ap (λ y. flat_map f (take at xs) ++ y) (append-nil (f (get_or xs at x))) ∙ ap (λ y. flat_map f (take at xs) ++ f y) (sym is)

lists_joined : (xs : List (List spec.Span)) (ks : List (List Span)) (y : List spec.Span) (l : List Span) → ListsAreKept xs ks → AreKept y l → ListsAreKept (xs ++ y ∷ []) (ks ++ l ∷ [])
lists_joined [] [] y l one other = (other, tt)
lists_joined [] (k ∷ ks) y l one other = absurd one
lists_joined (x ∷ xs) [] y l one other = absurd one
lists_joined (x ∷ xs) (k ∷ ks) y l one other = (one.0, lists_joined xs ks y l one.1 other)

last_kept : {X : Type 0} (f : X → List spec.Span) (xs : List X) (at : ℕ) (x : X) (kept made : List (List Span)) (one : List Span) → at < length xs → x ≡ get_or xs at x
    → ListsAreKept (map f (take at xs)) kept → AreKept (f x) one → made ≡ kept ++ one ∷ [] → ListsAreKept (map f (take (at + 1) xs)) made
last_kept f xs at x kept made one less is all these e =
    subst (λ ks. ListsAreKept (map f (take (at + 1) xs)) ks) (sym e)
    (subst (λ ys. ListsAreKept ys (kept ++ one ∷ [])) (sym more) (lists_joined (map f (take at xs)) kept (f x) one all these))
  where
    more : map f (take (at + 1) xs) ≡ map f (take at xs) ++ f x ∷ []
    more =
        ap (map f) (take_more xs at x less) ∙ map-append f (take at xs) (get_or xs at x ∷ [])
        ∙ ap (λ y. map f (take at xs) ++ f y ∷ []) (sym is)

pub list_more : {X Y : Type 0} (f : X → List spec.Span) (items : Y → List Span) (xs : List X) (at : ℕ) (x : X) (before after : List Y) (y : Y) → at < length xs → x ≡ get_or xs at x
    → ListsAreKept (map f (take at xs)) (map items before) → AreKept (f x) (items y) → after ≡ before ++ y ∷ [] → ListsAreKept (map f (take (at + 1) xs)) (map items after)
list_more f items xs at x before after y less is all these e =
    let kept = map items before in
    let one = items y in
    let made : map items after ≡ kept ++ one ∷ [] = ap (map items) e ∙ map-append items before (y ∷ []) in
    last_kept f xs at x kept (map items after) one less is all these made

-- ---- one construct

pub construct_noted : (evaluate : Expr → Evaluated) (files : List FileTree) (file : ℕ) (c : Construct) (kept : List (List Span)) (first : Option ℕ) (old new : Option Finding)
    → true ≡ is_select_at (layer_at files file c.opening) → ListsAreKept (map (λ head. spans_at evaluate (layer_at files file head)) c.heads) kept → first ≡ least (met [] kept)
    → new ≡ earlier old (option_map (conflict file) first) → new ≡ gathered old (construct_told evaluate files file c)
construct_noted evaluate files file c kept first old new select these least_is noted =
    noted ∙ ap (λ o. earlier old (option_map (conflict file) o)) least_is ∙ first_conflict old file (met [] kept)
    ∙ ap (gathered old) (met_is file [] [] tt (map (λ head. spans_at evaluate (layer_at files file head)) c.heads) kept these)
    ∙ ap (λ t. gathered old (cond t (spec.met file [] (map (λ head. spans_at evaluate (layer_at files file head)) c.heads)) [])) select

pub no_construct : (evaluate : Expr → Evaluated) (files : List FileTree) (file : ℕ) (c : Construct) (old : Option Finding)
    → false ≡ is_select_at (layer_at files file c.opening) → old ≡ gathered old (construct_told evaluate files file c)
no_construct evaluate files file c old select =
    ap (λ t. gathered old (cond t (spec.met file [] (map (λ head. spans_at evaluate (layer_at files file head)) c.heads)) [])) select

pub heads_mapped : {X : Type 0} (f : ℕ → List spec.Span) (head : X → ℕ) (xs : List X) → map (λ x. f (head x)) xs ≡ map f (map head xs)
heads_mapped f head [] = refl
heads_mapped f head (x ∷ xs) = ap (λ (more : List (List spec.Span)). f (head x) ∷ more) (heads_mapped f head xs)
