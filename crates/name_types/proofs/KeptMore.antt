-- What entities are, one after the other.
use Rattle.std.proofs.Common.{◌≡◌, ℕ, zero, suc, ◌+◌, ◌-◌, ◌<◌, ◌≤◌, List, [], ◌∷◌, ◌++◌, length, Some, slice_get, get_or, ◌⊎◌, inl, inr, sym, ap, subst, ◌∙◌, arith}
use Rattle.std.proofs.lemmas.Bool.{cases_lt}
use Rattle.std.proofs.lemmas.Option.{slice_get-get_or}
use Rattle.const_value.proofs.DataNumbers.{get_front}
use Rattle.const_value.proofs.NamedPlaces.{get_behind}

some_same : {X : Type 0} {x y : X} → Some x ≡ Some y → x ≡ y
some_same is = cc is

pub each_more : {X Y : Type 0} (P : X → Y → Type 0) (xs : List X) (ys made : List Y) (x : X) (y : Y) → made ≡ ys ++ y ∷ [] → slice_get xs (length ys) ≡ Some x → P x y
    → ((n : ℕ) (x : X) (y : Y) → slice_get xs n ≡ Some x → slice_get ys n ≡ Some y → P x y) → (n : ℕ) (x : X) (y : Y) → slice_get xs n ≡ Some x → slice_get made n ≡ Some y → P x y
each_more {X} {Y} P xs ys made x y made_is there holds each n x' y' one other = by (cases_lt n (length ys)) where
  last : (k : ℕ) → n ≡ length ys + k → slice_get (y ∷ []) k ≡ Some y' → P x' y'
  last zero same is =
      let at : n ≡ length ys = omega (arith, same) in
      let first : x ≡ x' = some_same (sym there ∙ ap (slice_get xs) (sym at) ∙ one) in
      let second : y ≡ y' = some_same is in
      subst (λ b. P x' b) second (subst (λ a. P a y) first holds)
  last (suc k) same is = absurd (cc is)

  by : (n < length ys) ⊎ (length ys ≤ n) → P x' y'
  by (inl less) = each n x' y' one (sym (get_front ys (y ∷ []) n less) ∙ sym (ap (λ zs. slice_get zs n) made_is) ∙ other)
  by (inr more) =
      let same : n ≡ length ys + (n - length ys) = omega (arith, more) in
      last (n - length ys) same (sym (get_behind ys (y ∷ []) (n - length ys)) ∙ ap (slice_get (ys ++ y ∷ [])) (sym same) ∙ sym (ap (λ zs. slice_get zs n) made_is) ∙ other)

-- with the one at that place
pub each_next : {X Y : Type 0} (P : X → Y → Type 0) (xs : List X) (ys made : List Y) (i : ℕ) (x : X) (y : Y) → made ≡ ys ++ y ∷ [] → length ys ≡ i → i < length xs → x ≡ get_or xs i x → P x y
    → ((n : ℕ) (x : X) (y : Y) → slice_get xs n ≡ Some x → slice_get ys n ≡ Some y → P x y) → (n : ℕ) (x : X) (y : Y) → slice_get xs n ≡ Some x → slice_get made n ≡ Some y → P x y
each_next P xs ys made i x y made_is long less at holds each =
    each_more P xs ys made x y made_is (ap (slice_get xs) long ∙ slice_get-get_or xs i x less ∙ ap Some (sym at)) holds each
