-- Sums of numbers over lists.
use Rattle.std.proofs.Common.{◌≡◌, ℕ, zero, suc, ◌+◌, ◌≤◌, ◌<◌, Bool, true, false, cond, List, [], ◌∷◌, ◌++◌, length, length-append, filter, inl, inr, Option, Some, None, refl, sym, ap, ap₂, subst, ◌∙◌, arith}
use Rattle.std.specs.Prelude.{slice_get}
use Rattle.std.specs.List.{enumerate_from, flat_map, range_with_len}
use Rattle.std.proofs.lemmas.Bool.{cases_lt}

abbrev pub total : {X : Type 0} → (X → ℕ) → List X → ℕ
total f [] = 0
total f (x ∷ xs) = f x + total f xs

pub total_less : {X : Type 0} (f g : X → ℕ) → ((x : X) → f x ≤ g x) → (xs : List X) → total f xs ≤ total g xs
total_less f g less [] = omega arith
total_less f g less (x ∷ xs) =
    let here : f x ≤ g x = less x in
    let rest : total f xs ≤ total g xs = total_less f g less xs in omega (arith, here, rest)

pub total_same : {X : Type 0} (f g : X → ℕ) → ((x : X) → f x ≡ g x) → (xs : List X) → total f xs ≡ total g xs
total_same f g same [] = refl
total_same f g same (x ∷ xs) = ap₂ (λ m n. m + n) (same x) (total_same f g same xs)

pub total_none : {X : Type 0} (xs : List X) → total (λ (x : X). 0) xs ≡ 0
total_none [] = refl
total_none (x ∷ xs) = let rest : total (λ x. 0) xs ≡ 0 = total_none xs in omega (arith, rest)

pub total_plus : {X : Type 0} (f g : X → ℕ) (xs : List X) → total (λ x. f x + g x) xs ≡ total f xs + total g xs
total_plus f g [] = refl
total_plus f g (x ∷ xs) = let rest : total (λ x. f x + g x) xs ≡ total f xs + total g xs = total_plus f g xs in omega (arith, rest)

pub total_swap : {X Y : Type 0} (h : X → Y → ℕ) (xs : List X) (ys : List Y) → total (λ x. total (h x) ys) xs ≡ total (λ y. total (λ x. h x y) xs) ys
total_swap h [] ys = sym (total_none ys)
total_swap h (x ∷ xs) ys = ap (λ n. total (h x) ys + n) (total_swap h xs ys) ∙ sym (total_plus (h x) (λ y. total (λ x. h x y) xs) ys)

pub total_flat : {X Y : Type 0} (f : X → List Y) (xs : List X) → length (flat_map f xs) ≡ total (λ x. length (f x)) xs
total_flat f [] = refl
total_flat f (x ∷ xs) = length-append (f x) (flat_map f xs) ∙ ap (λ n. length (f x) + n) (total_flat f xs)

pub total_filter : {X : Type 0} (f : X → ℕ) (test : X → Bool) (xs : List X) → total f (filter test xs) ≡ total (λ x. cond (test x) (f x) 0) xs
total_filter f test [] = refl
total_filter {X} f test (x ∷ xs) = by (test x) (total_filter f test xs) where
  by : (b : Bool) → total f (filter test xs) ≡ total (λ x. cond (test x) (f x) 0) xs
      → total f (cond b (x ∷ filter test xs) (filter test xs)) ≡ cond b (f x) 0 + total (λ x. cond (test x) (f x) 0) xs
  by true rest = ap (λ n. f x + n) rest
  by false rest = omega (arith, rest)

pub filter_short : {X : Type 0} (test : X → Bool) (xs : List X) → length (filter test xs) ≤ length xs
filter_short test [] = omega arith
filter_short {X} test (x ∷ xs) = by (test x) (filter_short test xs) where
  by : (b : Bool) → length (filter test xs) ≤ length xs → length (cond b (x ∷ filter test xs) (filter test xs)) ≤ suc (length xs)
  by true rest = omega (arith, rest)
  by false rest = omega (arith, rest)

-- each gives one or none
pub each_few : {X Y : Type 0} (f : X → List Y) → ((x : X) → length (f x) ≤ 1) → (xs : List X) → length (flat_map f xs) ≤ length xs
each_few f few [] = omega arith
each_few f few (x ∷ xs) =
    let here : length (f x) ≤ 1 = few x in
    let rest : length (flat_map f xs) ≤ length xs = each_few f few xs in
    let both : length (f x ++ flat_map f xs) ≡ length (f x) + length (flat_map f xs) = length-append (f x) (flat_map f xs) in
    omega (arith, here, rest, both)

-- ---- a part of a range

pub range_part : (w u : ℕ → ℕ) (b n a m : ℕ) → b ≤ a → a + m ≤ b + n → ((s : ℕ) → a ≤ s → s < a + m → w s ≤ u s)
    → total w (range_with_len a m) ≤ total u (range_with_len b n)
range_part w u b n a zero low high less = omega arith
range_part w u b zero a (suc m) low high less = absurd (omega (arith, low, high))
range_part w u b (suc n) a (suc m) low high less = elim (cases_lt b a) [
  | inl later ↦
      let rest : total w (range_with_len a (suc m)) ≤ total u (range_with_len (b + 1) n) = range_part w u (b + 1) n a (suc m) (omega (arith, later)) (omega (arith, high)) less in
      omega (arith, rest)
  | inr here ↦
      let same : a ≡ b = omega (arith, low, here) in
      let first : w a ≤ u b = subst (λ k. w a ≤ u k) same (less a (omega arith) (omega arith)) in
      let rest : total w (range_with_len (a + 1) m) ≤ total u (range_with_len (b + 1) n) =
      range_part w u (b + 1) n (a + 1) m (omega (arith, low)) (omega (arith, high)) (λ s from to. less s (omega (arith, from)) (omega (arith, to))) in
      omega (arith, first, rest)
]

-- over the numbers of a list's members
pub range_list : {X : Type 0} (h : Option X → ℕ) (there : ℕ → Option X) (xs : List X) (b : ℕ) → ((i : ℕ) → there (b + i) ≡ slice_get xs i)
    → total (λ s. h (there s)) (range_with_len b (length xs)) ≡ total (λ x. h (Some x)) xs
range_list h there [] b is = refl
range_list h there (x ∷ xs) b is =
    ap₂ (λ m n. m + n) (ap h (ap there (plus b) ∙ is 0)) (range_list h there xs (b + 1) (λ i. ap there (next b i) ∙ is (suc i)))
  where
    plus : (b : ℕ) → b ≡ b + 0
    plus b = omega arith

    next : (b i : ℕ) → b + 1 + i ≡ b + suc i
    next b i = omega arith

-- ---- numbered members

pub numbered_part : {X : Type 0} (g : ℕ × X → ℕ) (xs : List X) (k i n : ℕ) (x : X) → n ≡ k + i → slice_get xs i ≡ Some x → g (n, x) ≤ total g (enumerate_from k xs)
numbered_part g [] k i n x is there = absurd (cc there)
numbered_part g (y ∷ ys) k zero n x is there =
    let here : g (n, x) ≡ g (k, y) = ap₂ (λ a b. g (a, b)) (is ∙ plus k) (sym (some_same y x there)) in
    omega (arith, here)
  where
    plus : (k : ℕ) → k + 0 ≡ k
    plus k = omega arith

    some_same : {X : Type 0} (x y : X) → Some x ≡ Some y → x ≡ y
    some_same x y same = cc same
numbered_part g (y ∷ ys) k (suc i) n x is there =
    let rest : g (n, x) ≤ total g (enumerate_from (k + 1) ys) = numbered_part g ys (k + 1) i n x (omega (arith, is)) there in
    omega (arith, rest)

-- ---- at most one member passes

abbrev pub NoneOf : {X : Type 0} → (X → Bool) → List X → Type 0
NoneOf test [] = Unit {0}
NoneOf test (x ∷ xs) = (test x ≡ false) × NoneOf test xs

abbrev pub OneOf : {X : Type 0} → (X → Bool) → List X → Type 0
OneOf test [] = Unit {0}
OneOf test (x ∷ xs) = (test x ≡ true → NoneOf test xs) × OneOf test xs

none_count : {X : Type 0} (test : X → Bool) (c : ℕ) (xs : List X) → NoneOf test xs → total (λ x. cond (test x) c 0) xs ≡ 0
none_count test c [] none = refl
none_count test c (x ∷ xs) (here, none) =
    let first : ◌≡◌ {A = ℕ} (cond (test x) c 0) 0 = ap (λ b. cond b c 0) here in
    let rest : total (λ x. cond (test x) c 0) xs ≡ 0 = none_count test c xs none in
    omega (arith, first, rest)

pub one_count : {X : Type 0} (test : X → Bool) (c : ℕ) (xs : List X) → OneOf test xs → total (λ x. cond (test x) c 0) xs ≤ c
one_count test c [] one = omega arith
one_count {X} test c (x ∷ xs) (here, one) = by (test x) here (one_count test c xs one) where
  by : (b : Bool) → (b ≡ true → NoneOf test xs) → total (λ x. cond (test x) c 0) xs ≤ c → cond b c 0 + total (λ x. cond (test x) c 0) xs ≤ c
  by true here rest = let none : total (λ x. cond (test x) c 0) xs ≡ 0 = none_count test c xs (here refl) in omega (arith, none)
  by false here rest = omega (arith, rest)
