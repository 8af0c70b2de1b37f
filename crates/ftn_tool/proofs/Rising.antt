-- Names that rise, and what sorting and dropping repeats leaves.
use Rattle.std.proofs.Common.{◌≡◌, ℕ, ◌+◌, ◌≤◌, ◌<◌, Bool, true, false, List, [], ◌∷◌, length, drop, get_or, Option, None, Some, refl, sym, ap, ◌∙◌, subst, arith}
use Rattle.std.proofs.lemmas.Bool.{and_from, and_parts}
use Rattle.std.specs.Prelude.{IfSome, IsTrue, ◌&&◌, nat_eq}
use Rattle.std.specs.List.{Contains, dedup}
use Rattle.std.specs.List.Sorted.{IsPermutation, IsSorted, IsStrictlySortedBy}
use Rattle.std.specs.Ordering.{is_lt}
use Rattle.std.specs.Cmp.Lexicographic.{pointwise, texts_ties}
use Rattle.std.proofs.lemmas.Cmp.{nat_list_cmp_total, nat_list_eq_equiv}
use Rattle.std.proofs.lemmas.List.{drop_more, length-drop}
use Rattle.std.proofs.lemmas.List.Kept.{Contains-dedup, Contains-from_dedup, IsStrictlySortedBy-dedup}
use Rattle.std.proofs.lemmas.List.Sorted.{Contains-permutation, IsPermutation-sym}
use Rattle.std.proofs.lemmas.Slice.Eq.{bytes_eq-Decides}
use Rattle.std.specs.FinMap.Entries.{is_sorted}
use Rattle.ftn_base.specs.Files.{File, IsInOrder, by_name, names_of}
use Rattle.ftn_tool.specs.Rising.{rising}

-- the names of files in order rise
names_rise : (files : List File) → is_sorted by_name files ≡ true → rising (names_of files) ≡ true
names_rise [] ordered = refl
names_rise (file ∷ []) ordered = refl
names_rise (file ∷ next ∷ files) ordered =
    and_from _ _ (and_parts _ _ (and_parts _ _ ordered).0).0 (names_rise (next ∷ files) (and_parts _ _ ordered).1)

-- told names are left as they are
pub told_in_order : (told : Option (List File)) (names now : List (List ℕ)) → IfSome told (λ files. (names ≡ names_of files) × IsInOrder files) → (IsTrue (rising names) → now ≡ names)
    → IfSome told (λ files. (now ≡ names_of files) × IsInOrder files)
told_in_order None names now listed same = tt
told_in_order (Some files) names now listed same =
    let rise : rising names ≡ true = ap rising listed.0 ∙ names_rise files listed.1 in
    (same rise ∙ listed.0, listed.1)

-- one step along the names
pub step : (names : List (List ℕ)) (at : ℕ) (first second : List ℕ) → at + 1 < length names → first ≡ get_or names at first → second ≡ get_or names (at + 1) second
    → rising (drop at names) ≡ (is_lt (by_name first second) && rising (drop (at + 1) names))
step names at first second inside is next =
    let here : drop at names ≡ first ∷ drop (at + 1) names = drop_more names at first (omega arith) ∙ ap (λ (n : List ℕ). n ∷ drop (at + 1) names) (sym is) in
    let there : drop (at + 1) names ≡ second ∷ drop (at + 1 + 1) names = drop_more names (at + 1) second inside ∙ ap (λ (n : List ℕ). n ∷ drop (at + 1 + 1) names) (sym next) in
    ap rising (here ∙ ap (λ (rest : List (List ℕ)). first ∷ rest) there)
    ∙ ap (λ (rest : List (List ℕ)). is_lt (by_name first second) && rising rest) (sym there)

pub falls_here : (names : List (List ℕ)) (at : ℕ) (first second : List ℕ) (so_far : Bool) → at + 1 < length names → first ≡ get_or names at first → second ≡ get_or names (at + 1) second
    → so_far ≡ rising (drop at names) → is_lt (by_name first second) ≡ false → so_far ≡ false
falls_here names at first second so_far inside is next holds not_less =
    holds ∙ step names at first second inside is next ∙ ap (λ (b : Bool). b && rising (drop (at + 1) names)) not_less

pub rises_here : (names : List (List ℕ)) (at : ℕ) (first second : List ℕ) (so_far : Bool) → at + 1 < length names → first ≡ get_or names at first → second ≡ get_or names (at + 1) second
    → so_far ≡ rising (drop at names) → is_lt (by_name first second) ≡ true → so_far ≡ rising (drop (at + 1) names)
rises_here names at first second so_far inside is next holds less =
    holds ∙ step names at first second inside is next ∙ ap (λ (b : Bool). b && rising (drop (at + 1) names)) less

-- at most one name rises
short_rises : (names : List (List ℕ)) → length names ≤ 1 → rising names ≡ true
short_rises [] short = refl
short_rises (name ∷ []) short = refl
short_rises (name ∷ next ∷ names) short = absurd (omega (arith, short))

-- where at most one name is left, all rise that were passed
pub ended : (names : List (List ℕ)) (at : ℕ) → length names ≤ at + 1 → rising names ≡ rising (drop at names) → true ≡ rising names
ended names at last holds = sym (holds ∙ short_rises (drop at names) (omega (arith, length-drop at names, last)))

strict_rises : (names : List (List ℕ)) → IsStrictlySortedBy by_name names → rising names ≡ true
unfolding IsStrictlySortedBy
strict_rises [] strict = refl
strict_rises (name ∷ []) strict = refl
strict_rises (name ∷ next ∷ names) strict = and_from _ _ (ap is_lt strict.0.0) (strict_rises (next ∷ names) strict.1)

-- names that are sorted, and whose repeats are then dropped
module _ (names sorted now : List (List ℕ)) (is : now ≡ dedup (pointwise nat_eq) sorted) where
  pub dropped_rise : IsSorted by_name sorted → IsTrue (rising now)
  dropped_rise ordered = ap rising is ∙ strict_rises _ (IsStrictlySortedBy-dedup nat_list_cmp_total texts_ties sorted ordered)

  pub dropped_keep : IsPermutation names sorted → (name : List ℕ) → Contains names name → Contains now name
  dropped_keep moved name here = subst (λ (xs : List (List ℕ)). Contains xs name) (sym is) (Contains-dedup nat_list_eq_equiv (λ xs ys. (bytes_eq-Decides xs ys).0) sorted name (Contains-permutation names sorted name moved here))

  pub dropped_had : IsPermutation names sorted → (name : List ℕ) → Contains now name → Contains names name
  dropped_had moved name here = Contains-permutation sorted names name (IsPermutation-sym names sorted moved) (Contains-from_dedup (pointwise nat_eq) sorted name (subst (λ (xs : List (List ℕ)). Contains xs name) is here))
