-- Each of a list once: what a set of keys comes to.
use Rattle.std.proofs.Common.{◌≡◌, ℕ, nat_eq, Bool, true, false, cond, List, [], ◌∷◌, ◌++◌, filter, refl, sym, ap, ◌∙◌, append_assoc, arith}
use Rattle.std.specs.Prelude.{◌&&◌, ◌||◌, not}
use Rattle.std.specs.List.{list_any}
use Rattle.std.proofs.lemmas.List.{append-nil}
use Rattle.std.proofs.lemmas.List.Folds.{list_any-append}
use Rattle.std.proofs.lemmas.Bool.Decides.{nat_tests}
use Rattle.std.proofs.Math.Bool.{and-true, or-false}
use Rattle.indexmap.specs.IndexSet.{insert_all}
use Rattle.ftn_base.specs.Accessible.{once}

not_both : (a b : Bool) → not (a || b) ≡ (not b && not a)
not_both true true = refl
not_both true false = refl
not_both false b = sym (and-true (not b))

-- a filter of a filter tests both
both_filters : {A : Type 0} (p q r : A → Bool) → ((x : A) → p x ≡ (q x && r x)) → (xs : List A) → filter p xs ≡ filter r (filter q xs)
both_filters p q r same [] = refl
both_filters p q r same (x ∷ xs) = by (q x) (r x) refl refl (both_filters p q r same xs)
  where
    by : (a b : Bool) → q x ≡ a → r x ≡ b → filter p xs ≡ filter r (filter q xs) → filter p (x ∷ xs) ≡ filter r (filter q (x ∷ xs))
    by true true d e more = ap (λ c. cond c (x ∷ filter p xs) (filter p xs)) (same x ∙ ap (λ c. c && r x) d ∙ e) ∙ ap (λ ys. x ∷ ys) (more)
        ∙ sym (ap (λ c. filter r (cond c (x ∷ filter q xs) (filter q xs))) d ∙ ap (λ c. cond c (x ∷ filter r (filter q xs)) (filter r (filter q xs))) e)
    by true false d e more = ap (λ c. cond c (x ∷ filter p xs) (filter p xs)) (same x ∙ ap (λ c. c && r x) d ∙ e) ∙ more
        ∙ sym (ap (λ c. filter r (cond c (x ∷ filter q xs) (filter q xs))) d ∙ ap (λ c. cond c (x ∷ filter r (filter q xs)) (filter r (filter q xs))) e)
    by false b d e more = ap (λ c. cond c (x ∷ filter p xs) (filter p xs)) (same x ∙ ap (λ c. c && r x) d) ∙ more
        ∙ sym (ap (λ c. filter r (cond c (x ∷ filter q xs) (filter q xs))) d)

filter_all : {A : Type 0} (p : A → Bool) → ((x : A) → p x ≡ true) → (xs : List A) → filter p xs ≡ xs
filter_all p all [] = refl
filter_all p all (x ∷ xs) = ap (λ c. cond c (x ∷ filter p xs) (filter p xs)) (all x) ∙ ap (λ ys. x ∷ ys) (filter_all p all xs)

module _ {A : Type 0} (same : A → A → Bool) (equal : (x y : A) → same x y ≡ true → x ≡ y) where
  -- those that are the same as none of these
  abbrev new_to : List A → A → Bool
  new_to done y = not (list_any (same y) done)

  new_after : (done : List A) (x : A) → (y : A) → new_to (done ++ x ∷ []) y ≡ (not (same y x) && new_to done y)
  new_after done x y = ap not (list_any-append (same y) done (x ∷ []) ∙ ap (λ b. list_any (same y) done || b) (or-false (same y x))) ∙ not_both (list_any (same y) done) (same y x)

  new_same : (done : List A) (x : A) → list_any (same x) done ≡ true → (y : A) → new_to done y ≡ (not (same y x) && new_to done y)
  new_same done x there y = by (same y x) refl
    where
      by : (b : Bool) → same y x ≡ b → not (list_any (same y) done) ≡ (not b && not (list_any (same y) done))
      by true e = ap not (ap (λ z. list_any (same z) done) (equal y x e) ∙ there)
      by false e = refl

  inserted_is : (done xs : List A) → insert_all same done xs ≡ done ++ filter (new_to done) (once same xs)
  inserted_is done [] = sym (append-nil done)
  inserted_is done (x ∷ xs) = by (list_any (same x) done) refl (λ more. inserted_is more xs)
    where
      by : (b : Bool) → list_any (same x) done ≡ b → ((more : List A) → insert_all same more xs ≡ more ++ filter (new_to more) (once same xs)) → insert_all same done (x ∷ xs) ≡ done ++ filter (new_to done) (x ∷ (filter (λ y. not (same y x)) (once same xs)))
      by true e rest =
          ap (λ c. insert_all same (cond c done (done ++ x ∷ [])) xs) e
          ∙ rest done
          ∙ ap (λ ys. done ++ ys) (both_filters (new_to done) (λ y. not (same y x)) (new_to done) (new_same done x e) (once same xs))
          ∙ sym (ap (λ c. done ++ cond (not c) (x ∷ filter (new_to done) (filter (λ y. not (same y x)) (once same xs))) (filter (new_to done) (filter (λ y. not (same y x)) (once same xs)))) e)
      by false e rest =
          ap (λ c. insert_all same (cond c done (done ++ x ∷ [])) xs) e
          ∙ rest (done ++ x ∷ [])
          ∙ ap (λ ys. (done ++ x ∷ []) ++ ys) (both_filters (new_to (done ++ x ∷ [])) (λ y. not (same y x)) (new_to done) (new_after done x) (once same xs))
          ∙ append_assoc done (x ∷ []) (filter (new_to done) (filter (λ y. not (same y x)) (once same xs)))
          ∙ sym (ap (λ c. done ++ cond (not c) (x ∷ filter (new_to done) (filter (λ y. not (same y x)) (once same xs))) (filter (new_to done) (filter (λ y. not (same y x)) (once same xs)))) e)

  pub once_is : (xs : List A) → insert_all same [] xs ≡ once same xs
  once_is xs = inserted_is [] xs ∙ filter_all (new_to []) (λ x. refl) (once same xs)

equal_numbers : (x y : ℕ) → nat_eq x y ≡ true → x ≡ y
equal_numbers x y is = grind (arith, nat_tests)

pub numbers_once : (xs : List ℕ) → insert_all nat_eq [] xs ≡ once nat_eq xs
numbers_once xs = once_is nat_eq equal_numbers xs
