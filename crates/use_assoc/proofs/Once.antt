-- Each of a list once: what a set of keys comes to.
use Rattle.std.proofs.Common.{◌≡◌, ℕ, nat_eq, Bool, true, false, cond, List, [], ◌∷◌, ◌++◌, filter, refl, sym, ap, ◌∙◌, append_assoc, ◌<◌, arith, map}
use Rattle.std.specs.Prelude.{◌&&◌, ◌||◌, not}
use Rattle.std.specs.List.{list_any, All, AllByRecursion as ByRecursion}
use Rattle.std.specs.Str.{bytes_eq}
use Rattle.std.proofs.lemmas.List.{append-nil}
use Rattle.std.proofs.lemmas.List.Elements.{All-cons, All-filter, All-map, All-nil, recursion_from_All}
use Rattle.std.proofs.lemmas.List.Folds.{list_any-append}
use Rattle.std.proofs.lemmas.Slice.Eq.{bytes_eq-Decides}
use Rattle.std.proofs.lemmas.Bool.Decides.{nat_tests}
use Rattle.std.proofs.lemmas.Bool.{eqb-true, and_parts}
use Rattle.std.proofs.Math.Bool.{and-true, or-false, or_assoc}
use Rattle.indexmap.specs.IndexSet.{insert_all, insert_key}
use Rattle.ftn_base.specs.Exports.{Pair, is_among}
use Rattle.ftn_base.specs.Accessible.{is_same_pair, modules_of, once}
use Rattle.ftn_base.specs.declared.uses.UseList.{UseList}

not_both : (a b : Bool) → not (a || b) ≡ (not b && not a)
not_both true true = refl
not_both true false = refl
not_both false b = sym (and-true (not b))

-- a filter of a filter tests both
both_filters : {A : Type 0} (p q r : A → Bool) → ((x : A) → p x ≡ (q x && r x)) → (xs : List A) → filter p xs ≡ filter r (filter q xs)
both_filters p q r same [] = refl
both_filters p q r same (x ∷ xs) = by (q x) (r x) refl refl (both_filters p q r same xs)
  where
    by : (a b : Bool) → q x ≡ a → r x ≡ b → filter p xs ≡ filter r (filter q xs) → filter p (x ∷ xs) ≡ filter r (filter q (x ∷ xs))
    by true true d e more = ap (λ c. cond c (x ∷ filter p xs) (filter p xs)) (same x ∙ ap (λ c. c && r x) d ∙ e) ∙ ap (λ ys. x ∷ ys) (more)
        ∙ sym (ap (λ c. filter r (cond c (x ∷ filter q xs) (filter q xs))) d ∙ ap (λ c. cond c (x ∷ filter r (filter q xs)) (filter r (filter q xs))) e)
    by true false d e more = ap (λ c. cond c (x ∷ filter p xs) (filter p xs)) (same x ∙ ap (λ c. c && r x) d ∙ e) ∙ more
        ∙ sym (ap (λ c. filter r (cond c (x ∷ filter q xs) (filter q xs))) d ∙ ap (λ c. cond c (x ∷ filter r (filter q xs)) (filter r (filter q xs))) e)
    by false b d e more = ap (λ c. cond c (x ∷ filter p xs) (filter p xs)) (same x ∙ ap (λ c. c && r x) d) ∙ more
        ∙ sym (ap (λ c. filter r (cond c (x ∷ filter q xs) (filter q xs))) d)

filter_all : {A : Type 0} (p : A → Bool) → ((x : A) → p x ≡ true) → (xs : List A) → filter p xs ≡ xs
filter_all p all [] = refl
filter_all p all (x ∷ xs) = ap (λ c. cond c (x ∷ filter p xs) (filter p xs)) (all x) ∙ ap (λ ys. x ∷ ys) (filter_all p all xs)

module _ {A : Type 0} (same : A → A → Bool) (equal : (x y : A) → same x y ≡ true → x ≡ y) where
  -- those that are the same as none of these
  abbrev new_to : List A → A → Bool
  new_to done y = not (list_any (same y) done)

  new_after : (done : List A) (x : A) → (y : A) → new_to (done ++ x ∷ []) y ≡ (not (same y x) && new_to done y)
  new_after done x y = ap not (list_any-append (same y) done (x ∷ []) ∙ ap (λ b. list_any (same y) done || b) (or-false (same y x))) ∙ not_both (list_any (same y) done) (same y x)

  new_same : (done : List A) (x : A) → list_any (same x) done ≡ true → (y : A) → new_to done y ≡ (not (same y x) && new_to done y)
  new_same done x there y = by (same y x) refl
    where
      by : (b : Bool) → same y x ≡ b → not (list_any (same y) done) ≡ (not b && not (list_any (same y) done))
      by true e = ap not (ap (λ z. list_any (same z) done) (equal y x e) ∙ there)
      by false e = refl

  inserted_is : (done xs : List A) → insert_all same done xs ≡ done ++ filter (new_to done) (once same xs)
  inserted_is done [] = sym (append-nil done)
  inserted_is done (x ∷ xs) = by (list_any (same x) done) refl (λ more. inserted_is more xs)
    where
      by : (b : Bool) → list_any (same x) done ≡ b → ((more : List A) → insert_all same more xs ≡ more ++ filter (new_to more) (once same xs)) → insert_all same done (x ∷ xs) ≡ done ++ filter (new_to done) (x ∷ (filter (λ y. not (same y x)) (once same xs)))
      by true e rest =
          ap (λ c. insert_all same (cond c done (done ++ x ∷ [])) xs) e
          ∙ rest done
          ∙ ap (λ ys. done ++ ys) (both_filters (new_to done) (λ y. not (same y x)) (new_to done) (new_same done x e) (once same xs))
          ∙ sym (ap (λ c. done ++ cond (not c) (x ∷ filter (new_to done) (filter (λ y. not (same y x)) (once same xs))) (filter (new_to done) (filter (λ y. not (same y x)) (once same xs)))) e)
      by false e rest =
          ap (λ c. insert_all same (cond c done (done ++ x ∷ [])) xs) e
          ∙ rest (done ++ x ∷ [])
          ∙ ap (λ ys. (done ++ x ∷ []) ++ ys) (both_filters (new_to (done ++ x ∷ [])) (λ y. not (same y x)) (new_to done) (new_after done x) (once same xs))
          ∙ append_assoc done (x ∷ []) (filter (new_to done) (filter (λ y. not (same y x)) (once same xs)))
          ∙ sym (ap (λ c. done ++ cond (not c) (x ∷ filter (new_to done) (filter (λ y. not (same y x)) (once same xs))) (filter (new_to done) (filter (λ y. not (same y x)) (once same xs)))) e)

  pub once_is : (xs : List A) → insert_all same [] xs ≡ once same xs
  once_is xs = inserted_is [] xs ∙ filter_all (new_to []) (λ x. refl) (once same xs)

  among_inserted : (done xs : List A) (q : A) → list_any (same q) (insert_all same done xs) ≡ (list_any (same q) done || list_any (same q) xs)
  among_inserted done [] q = sym (or-false (list_any (same q) done))
  among_inserted done (x ∷ xs) q = among_inserted (insert_key same done x) xs q ∙ ap (λ b. b || list_any (same q) xs) (one (list_any (same x) done) refl)
      ∙ or_assoc (list_any (same q) done) (same q x) (list_any (same q) xs)
    where
      one : (b : Bool) → list_any (same x) done ≡ b → list_any (same q) (insert_key same done x) ≡ (list_any (same q) done || same q x)
      one true e = ap (λ c. list_any (same q) (cond c done (done ++ x ∷ []))) e ∙ there (same q x) refl
        where
          there : (c : Bool) → same q x ≡ c → list_any (same q) done ≡ (list_any (same q) done || c)
          there true f =
              let all : list_any (same q) done ≡ true = ap (λ z. list_any (same z) done) (equal q x f) ∙ e in
              all ∙ sym (ap (λ d. d || true) all)
          there false f = sym (or-false (list_any (same q) done))
      one false e = ap (λ c. list_any (same q) (cond c done (done ++ x ∷ []))) e ∙ list_any-append (same q) done (x ∷ []) ∙ ap (λ b. list_any (same q) done || b) (or-false (same q x))

  once_all : (P : A → Type 0) (xs : List A) → ByRecursion P xs → All P (once same xs)
  once_all P [] all = All-nil P
  once_all P (x ∷ xs) all = All-cons P x (filter (λ y. not (same y x)) (once same xs)) all.0 (All-filter (λ y. not (same y x)) P (once same xs) (once_all P xs all.1))

  pub all_once : (P : A → Type 0) (xs : List A) → All P xs → All P (once same xs)
  all_once P xs all = once_all P xs (recursion_from_All P xs all)

pub names_among : (set names : List (List ℕ)) → insert_all bytes_eq [] names ≡ set → is_among set ≡ is_among names
names_among set names e = λ i name. (ap (λ s. is_among s name) (sym e) ∙ among_inserted bytes_eq (λ x y h. (bytes_eq-Decides x y).0 h) [] names name) i

pub same_as_itself : (x : ℕ) → nat_eq x x ≡ true
same_as_itself x = grind (arith, nat_tests)

pub is_same : (a b : Pair) → is_same_pair a b ≡ true → a ≡ b
is_same a b e =
    let both = and_parts (bytes_eq a.0 b.0) (nat_eq a.1.0 b.1.0) e in
    let name : a.0 ≡ b.0 = (bytes_eq-Decides a.0 b.0).0 both.0 in
    let number : a.1.0 ≡ b.1.0 = eqb-true a.1.0 b.1.0 both.1 in
    λ i. (name i, record { 0 = number i })

pub pairs_once : (xs : List Pair) → insert_all is_same_pair [] xs ≡ once is_same_pair xs
pairs_once xs = once_is is_same_pair is_same xs

pub modules_once : (lists : List UseList) → insert_all nat_eq [] (map (λ list. list.«module») lists) ≡ modules_of lists
modules_once lists = once_is nat_eq eqb-true (map (λ list. list.«module») lists)

pub modules_within : (most : ℕ) (lists : List UseList) → All (λ list. list.«module» < most) lists → All (λ number. number < most) (modules_of lists)
modules_within most lists all =
    all_once nat_eq eqb-true (λ number. number < most) (map (λ list. list.«module») lists)
    (All-map (λ number. number < most) (λ list. list.«module») lists all)
