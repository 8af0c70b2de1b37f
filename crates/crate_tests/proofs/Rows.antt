-- Lists that pass a test fit.
use Rattle.std.proofs.Common.{◌≡◌, ℕ, ◌<◌, Bool, true, List, [], ◌∷◌, length}
use Rattle.std.specs.Prelude.{◌&&◌, nat_lt}
use Rattle.std.specs.List.{All, AllByRecursion as ByRecursion, list_all}
use Rattle.std.proofs.lemmas.Bool.{and_parts, ltb-true}
use Rattle.std.proofs.lemmas.List.Elements.{All-from_recursion}
use Rattle.ftn_base.specs.declared.uses.UseList.{UseList}

module _ {A : Type 0} (p : A → Bool) (P : A → Type 0) (holds : (x : A) → p x ≡ true → P x) where
  each_passed : (xs : List A) → list_all p xs ≡ true → ByRecursion P xs
  each_passed [] e = tt
  each_passed (x ∷ xs) e = (holds x (and_parts (p x) (list_all p xs) e).0, each_passed xs (and_parts (p x) (list_all p xs) e).1)

  all_passed : (xs : List A) → list_all p xs ≡ true → All P xs
  all_passed xs e = All-from_recursion P xs (each_passed xs e)

abbrev pub fits : ℕ → UseList → Bool
fits count list = nat_lt list.«module» count && nat_lt (length list.items) 4294967296

pub modules_fit : (count : ℕ) (lists : List UseList) → list_all (fits count) lists ≡ true → All (λ list. list.«module» < count) lists
modules_fit count lists e =
    all_passed (fits count) (λ list. list.«module» < count) (λ list h. ltb-true list.«module» count (and_parts (nat_lt list.«module» count) (nat_lt (length list.items) 4294967296) h).0) lists e

pub items_fit : (count : ℕ) (lists : List UseList) → list_all (fits count) lists ≡ true → All (λ list. length list.items < 4294967296) lists
items_fit count lists e =
    all_passed (fits count) (λ list. length list.items < 4294967296)
    (λ list h. ltb-true (length list.items) 4294967296 (and_parts (nat_lt list.«module» count) (nat_lt (length list.items) 4294967296) h).1) lists e
