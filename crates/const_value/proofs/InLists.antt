-- What is in lists: by places, in filters, in ranges, in lists of what each element gives.
use Rattle.std.proofs.Common.{◌≡◌, ◌⊎◌, inl, inr, ℕ, zero, suc, ◌+◌, ◌<◌, ◌≤◌, Bool, true, false, cond, List, [], ◌∷◌, filter, map, Some, refl, sym, subst, ap, ap₂, ◌∙◌, arith}
use Rattle.std.specs.Prelude.{slice_get}
use Rattle.std.specs.List.{enumerate_from, range_with_len}
use Rattle.std.proofs.lemmas.Bool.{cases_eq}
use Rattle.const_value.proofs.FindingSets.{In}

-- ---- elements by their places

pub in_at : {X : Type 0} (xs : List X) (k : ℕ) (x : X) → slice_get xs k ≡ Some x → In x xs
in_at [] k x is = absurd (cc is)
in_at (y ∷ xs) zero x is = inl (cc is)
in_at (y ∷ xs) (suc k) x is = inr (in_at xs k x is)

pub record At {X : Type 0} (xs : List X) (x : X) : Type 0 where
  pub place : ℕ
  pub is : slice_get xs place ≡ Some x

pub place_of : {X : Type 0} (xs : List X) (x : X) → In x xs → At xs x
place_of [] x h = absurd h
place_of (y ∷ xs) x (inl same) = record { place = 0; is = ap Some same }
place_of (y ∷ xs) x (inr h) = let a = place_of xs x h in record { place = suc a.place; is = a.is }

pub in_filter : {X : Type 0} (test : X → Bool) (xs : List X) (x : X) → In x xs → test x ≡ true → In x (filter test xs)
in_filter test [] x h passes = absurd h
in_filter {X} test (y ∷ xs) x (inl same) passes = by (test y) (ap test same ∙ passes) where
  by : (b : Bool) → b ≡ true → In x (cond b (y ∷ filter test xs) (filter test xs))
  by true is = inl same
  by false is = absurd (cc is)
in_filter {X} test (y ∷ xs) x (inr h) passes = by (test y) (in_filter test xs x h passes) where
  by : (b : Bool) → In x (filter test xs) → In x (cond b (y ∷ filter test xs) (filter test xs))
  by true rest = inr rest
  by false rest = rest

pub record Passed {X : Type 0} (test : X → Bool) (xs : List X) (x : X) : Type 0 where
  pub among : In x xs
  pub passes : test x ≡ true

pub out_of_filter : {X : Type 0} (test : X → Bool) (xs : List X) (x : X) → In x (filter test xs) → Passed test xs x
out_of_filter test [] x h = absurd h
out_of_filter {X} test (y ∷ xs) x h = by (test y) refl h (out_of_filter test xs x) where
  by : (b : Bool) → test y ≡ b → In x (cond b (y ∷ filter test xs) (filter test xs)) → (In x (filter test xs) → Passed test xs x) → Passed test (y ∷ xs) x
  by true is (inl same) rest = record { among = inl same; passes = ap test (sym same) ∙ is }
  by true is (inr h) rest = let r = rest h in record { among = inr r.among; passes = r.passes }
  by false is h rest = let r = rest h in record { among = inr r.among; passes = r.passes }

pub in_range : (a n k : ℕ) → a ≤ k → k < a + n → In k (range_with_len a n)
in_range a zero k low high = absurd (omega arith)
in_range a (suc n) k low high = by (cases_eq a k) (in_range (a + 1) n k) where
  by : (a ≡ k) ⊎ (a ≡ k → ⊥) → (a + 1 ≤ k → k < a + 1 + n → In k (range_with_len (a + 1) n)) → In k (a ∷ range_with_len (a + 1) n)
  by (inl same) rest = inl same
  by (inr differ) rest = inr (rest (omega (arith, differ)) (omega arith))

pub in_map : {X Y : Type 0} (f : X → Y) (xs : List X) (x : X) → In x xs → In (f x) (map f xs)
in_map f [] x h = absurd h
in_map f (y ∷ xs) x (inl same) = inl (ap f same)
in_map f (y ∷ xs) x (inr h) = inr (in_map f xs x h)

pub record From {X Y : Type 0} (f : X → Y) (xs : List X) (y : Y) : Type 0 where
  pub of : X
  pub among : In of xs
  pub is : f of ≡ y

pub out_of_map : {X Y : Type 0} (f : X → Y) (xs : List X) (y : Y) → In y (map f xs) → From f xs y
out_of_map f [] y h = absurd h
out_of_map f (x ∷ xs) y (inl same) = record { of = x; among = inl refl; is = same }
out_of_map f (x ∷ xs) y (inr h) = let r = out_of_map f xs y h in record { of = r.of; among = inr r.among; is = r.is }

-- each with its number
pub in_numbers : {X : Type 0} (at : ℕ) (xs : List X) (k : ℕ) (x : X) → slice_get xs k ≡ Some x → In (at + k, x) (enumerate_from at xs)
in_numbers at [] k x is = absurd (cc is)
in_numbers {X} at (y ∷ xs) zero x is =
    let none : at ≡ at + 0 = omega arith in
    let same : y ≡ x = cc is in
    inl (ap₂ (λ (n : ℕ) (z : X). (n, z)) none same)
in_numbers {X} at (y ∷ xs) (suc k) x is =
    let next : at + 1 + k ≡ at + suc k = omega arith in
    inr (subst (λ n. In (n, x) (enumerate_from (at + 1) xs)) next (in_numbers (at + 1) xs k x is))

pub record Numbered {X : Type 0} (at : ℕ) (xs : List X) (number : ℕ) (x : X) : Type 0 where
  pub place : ℕ
  pub is : slice_get xs place ≡ Some x
  pub number_is : at + place ≡ number

pub out_of_numbers : {X : Type 0} (at : ℕ) (xs : List X) (numbered : ℕ × X) → In numbered (enumerate_from at xs) → Numbered at xs numbered.0 numbered.1
out_of_numbers at [] numbered h = absurd h
out_of_numbers at (y ∷ xs) numbered (inl same) =
    let none : at + 0 ≡ at = omega arith in
    record { place = 0; is = ap (λ pair. Some pair.1) same; number_is = none ∙ ap (λ pair. pair.0) same }
out_of_numbers at (y ∷ xs) numbered (inr h) =
    let r = out_of_numbers (at + 1) xs numbered h in
    let next : at + suc r.place ≡ at + 1 + r.place = omega arith in
    record { place = suc r.place; is = r.is; number_is = next ∙ r.number_is }
