-- Where a project has no fault of its declarations a function's result is no dummy argument.
use Rattle.std.proofs.Common.{◌≡◌, ℕ, zero, suc, Bool, true, false, cond, List, [], ◌∷◌, ◌++◌, Option, Some, None, slice_get, option_map, inl, inr, refl, sym, ap, ap₂, ◌∙◌}
use Rattle.std.specs.Prelude.{◌&&◌, ◌||◌, not}
use Rattle.std.specs.List.{find, flat_map, list_any}
use Rattle.std.specs.Option.{option_map_or}
use Rattle.std.specs.Str.{bytes_eq}
use Rattle.std.proofs.lemmas.Bool.{and_parts}
use Rattle.std.proofs.lemmas.List.Folds.{list_any-append}
use Rattle.ftn_base.specs.declared.fault.FaultKind.{FaultKind}
use Rattle.ftn_base.specs.declared.fault.FaultKind.TheVariants.{Twice}
use Rattle.ftn_tree.specs.declared.table.Extent.{Extent}
use Rattle.ftn_tree.specs.declared.table.ScopeKind.{ScopeKind}
use Rattle.ftn_tree.specs.declared.unit.FileTree.{FileTree}
use Rattle.ftn_tree.specs.DeclarationFaults.{Finding, conflicting_at, declaration_fault, declaration_rank, each_after, fault_of, findings, first_finding, found_with, global_findings, partner, place_of_saying, scope_findings, twice_at}
use Rattle.ftn_tree.specs.DeclaredEntities.{is_said}
use Rattle.ftn_tree.specs.Exclusions.{is_twice, is_twice_itself, twice_in}
use Rattle.ftn_tree.specs.Extents.{scoping}
use Rattle.ftn_tree.specs.NameFaults.{said_of}
use Rattle.ftn_tree.specs.Sayings.{Saying, answer, dummy, same_name, sayings}
use Rattle.ftn_tree.specs.Scopes.{scope_kind}
use Rattle.const_value.proofs.Members.{or_cases, or_left, or_right}
use Rattle.const_value.proofs.NamedPlaces.{same_bytes}
use Rattle.const_value.proofs.OwnSayings.{any_weaker, passed_any}

both_empty : {A : Type 0} (xs ys : List A) → xs ++ ys ≡ [] → (xs ≡ []) × (ys ≡ [])
both_empty [] ys is = (refl, is)
both_empty (x ∷ xs) ys is = absurd (cc is)

left_false : (a b : Bool) → (a || b) ≡ false → a ≡ false
left_false true b is = absurd (cc is)
left_false false b is = refl

find_none : (p : Saying → Bool) (all : List Saying) → find p all ≡ None → list_any p all ≡ false
find_none p [] is = refl
find_none p (s ∷ all) is = by (p s) refl is (find_none p all) where
  by : (b : Bool) → p s ≡ b → cond b (Some s) (find p all) ≡ None → (find p all ≡ None → list_any p all ≡ false) → (p s || list_any p all) ≡ false
  by true passes is rest = absurd (cc is)
  by false fails is rest = ap₂ (λ a b. a || b) fails (rest is)

result_twice : (one other : Saying) → dummy one ≡ true → answer other ≡ true → twice_in one other ≡ true
result_twice one other is result = or_left _ _ (or_left _ _ (or_right _ (dummy one && (dummy other || answer other)) (ap₂ (λ a b. a && b) is (or_right (dummy other) (answer other) result))))

module _ (kind : ScopeKind) (file : ℕ) (name : List ℕ) where
  abbrev of_dummy : Saying → Bool
  of_dummy s = same_name name s && dummy s

  abbrev of_result : Saying → Bool
  of_result s = same_name name s && (answer s && not (dummy s))

  apart : (before : List Saying) (s : Saying) (rest : List Saying) → each_after kind file before (s ∷ rest) ≡ [] → list_any (λ earlier. same_name s.name earlier && is_twice earlier s) before ≡ false
  apart before s rest none =
      left_false (list_any (λ earlier. same_name s.name earlier && is_twice earlier s) before) _
      (sym (list_any-append (λ earlier. same_name s.name earlier && is_twice earlier s) before (cond (is_twice_itself s) (s ∷ []) []))
      ∙ find_none (λ earlier. same_name s.name earlier && is_twice earlier s) (before ++ cond (is_twice_itself s) (s ∷ []) [])
      (by (partner before s) ((both_empty (twice_at file before s) (conflicting_at kind file before s ++ each_after kind file (before ++ s ∷ []) rest) none).0)))
    where
      by : (o : Option Saying) → option_map_or (λ (earlier : Saying). found_with Twice (place_of_saying file s) (place_of_saying file earlier) ∷ []) o [] ≡ [] → o ≡ None
      by None is = refl
      by (Some x) is = absurd (cc is)

  later : (before : List Saying) (s : Saying) (rest : List Saying) → each_after kind file before (s ∷ rest) ≡ [] → each_after kind file (before ++ s ∷ []) rest ≡ []
  later before s rest none = (both_empty (conflicting_at kind file before s) (each_after kind file (before ++ s ∷ []) rest) ((both_empty (twice_at file before s) _ none).1)).1

  same_names : (s x : Saying) → same_name name s ≡ true → same_name name x ≡ true → same_name s.name x ≡ true
  same_names s x one other = ap (bytes_eq x.name) (same_bytes s.name name one) ∙ other

  kept : (p : Saying → Bool) (before : List Saying) (s : Saying) → list_any p before ≡ true → list_any p (before ++ s ∷ []) ≡ true
  kept p before s is = list_any-append p before (s ∷ []) ∙ or_left (list_any p before) (list_any p (s ∷ [])) is

  added : (p : Saying → Bool) (before : List Saying) (s : Saying) → p s ≡ true → list_any p (before ++ s ∷ []) ≡ true
  added p before s is = list_any-append p before (s ∷ []) ∙ or_right (list_any p before) (list_any p (s ∷ [])) (or_left (p s) false is)

  dummy_first : (before rest : List Saying) → each_after kind file before rest ≡ [] → list_any of_dummy before ≡ true → list_any of_result rest ≡ true → ⊥
  dummy_first before [] none earlier is = cc is
  dummy_first before (s ∷ rest) none earlier is = elim (or_cases (of_result s) (list_any of_result rest) is) [
    | inl here ↦
        let parts = and_parts (same_name name s) (answer s && not (dummy s)) here in
        let some : list_any (λ x. same_name s.name x && is_twice x s) before ≡ true =
        any_weaker of_dummy (λ x. same_name s.name x && is_twice x s) (λ x is.
        let both = and_parts (same_name name x) (dummy x) is in
        ap₂ (λ a b. a && b) (same_names s x parts.0 both.0) (or_left (twice_in x s) (twice_in s x) (result_twice x s both.1 ((and_parts (answer s) (not (dummy s)) parts.1).0)))) before earlier in
        cc (some, apart before s rest none)
    | inr more ↦ dummy_first (before ++ s ∷ []) rest (later before s rest none) (kept of_dummy before s earlier) more
  ]

  result_first : (before rest : List Saying) → each_after kind file before rest ≡ [] → list_any of_result before ≡ true → list_any of_dummy rest ≡ true → ⊥
  result_first before [] none earlier is = cc is
  result_first before (s ∷ rest) none earlier is = elim (or_cases (of_dummy s) (list_any of_dummy rest) is) [
    | inl here ↦
        let parts = and_parts (same_name name s) (dummy s) here in
        let some : list_any (λ x. same_name s.name x && is_twice x s) before ≡ true =
        any_weaker of_result (λ x. same_name s.name x && is_twice x s) (λ x is.
        let both = and_parts (same_name name x) (answer x && not (dummy x)) is in
        ap₂ (λ a b. a && b) (same_names s x parts.0 both.0) (or_right (twice_in x s) (twice_in s x) (result_twice s x parts.1 ((and_parts (answer x) (not (dummy x)) both.1).0)))) before earlier in
        cc (some, apart before s rest none)
    | inr more ↦ result_first (before ++ s ∷ []) rest (later before s rest none) (kept of_result before s earlier) more
  ]

  not_both : (s : Saying) → of_dummy s ≡ true → of_result s ≡ true → ⊥
  not_both s is result =
      let argument : dummy s ≡ true = (and_parts (same_name name s) (dummy s) is).1 in
      let none : not (dummy s) ≡ true = (and_parts (answer s) (not (dummy s)) ((and_parts (same_name name s) (answer s && not (dummy s)) result).1)).1 in
      let no : not true ≡ true = ap not (sym argument) ∙ none in
      cc no

  both_said : (before rest : List Saying) → each_after kind file before rest ≡ [] → list_any of_dummy rest ≡ true → list_any of_result rest ≡ true → ⊥
  both_said before [] none is result = cc is
  both_said before (s ∷ rest) none is result = elim (or_cases (of_dummy s) (list_any of_dummy rest) is) [
    | inl here ↦ elim (or_cases (of_result s) (list_any of_result rest) result) [
      | inl too ↦ not_both s here too
      | inr after ↦ dummy_first (before ++ s ∷ []) rest (later before s rest none) (added of_dummy before s here) after
    ]
    | inr more ↦ elim (or_cases (of_result s) (list_any of_result rest) result) [
      | inl first ↦ result_first (before ++ s ∷ []) rest (later before s rest none) (added of_result before s first) more
      | inr after ↦ both_said (before ++ s ∷ []) rest (later before s rest none) more after
    ]
  ]

none_first : (rank : FaultKind → ℕ) (all : List Finding) → first_finding rank all ≡ None → all ≡ []
none_first rank [] is = refl
none_first rank (f ∷ all) is = absurd (cc is)

flat_empty : {A B : Type 0} (f : A → List B) (xs : List A) (k : ℕ) (x : A) → flat_map f xs ≡ [] → slice_get xs k ≡ Some x → f x ≡ []
flat_empty f [] k x none is = absurd (cc is)
flat_empty f (y ∷ xs) zero x none is = let same : y ≡ x = cc is in ap f (sym same) ∙ (both_empty (f y) (flat_map f xs) none).0
flat_empty f (y ∷ xs) (suc k) x none is = flat_empty f xs k x ((both_empty (f y) (flat_map f xs) none).1) is

pub result_no_dummy : (files : List FileTree) → declaration_fault files ≡ None → (k : ℕ) (e : Extent) → slice_get (scoping files) k ≡ Some e → (name : List ℕ)
    → list_any (λ s. same_name name s && (answer s && not (dummy s))) (sayings files e) ≡ true → is_said dummy (said_of files e name) ≡ false
result_no_dummy files fine k e there name result = by (is_said dummy (said_of files e name)) refl where
  none : findings files ≡ []
  none = none_first declaration_rank (findings files) (of (first_finding declaration_rank (findings files)) fine) where
    of : (o : Option Finding) → option_map (fault_of files) o ≡ None → o ≡ None
    of None is = refl
    of (Some f) is = absurd (cc is)

  scope_none : each_after (scope_kind files e) e.file [] (sayings files e) ≡ []
  scope_none =
      (both_empty (each_after (scope_kind files e) e.file [] (sayings files e)) _ (flat_empty (scope_findings files) (scoping files) k e ((both_empty (global_findings files) (flat_map (scope_findings files) (scoping files)) none).1) there)).0

  by : (b : Bool) → is_said dummy (said_of files e name) ≡ b → is_said dummy (said_of files e name) ≡ false
  by false is = is
  by true is =
      absurd (both_said (scope_kind files e) e.file name [] (sayings files e) scope_none
      (passed_any (same_name name) dummy (λ s. same_name name s && dummy s) (λ s named has. ap₂ (λ a b. a && b) named has) (sayings files e) is) result)
