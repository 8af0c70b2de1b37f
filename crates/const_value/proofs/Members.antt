-- What holds of each member of a list, and tests that one of them passes.
use Rattle.std.proofs.Common.{◌≡◌, ℕ, zero, suc, ◌+◌, ◌<◌, Bool, true, false, cond, List, [], ◌∷◌, ◌++◌, filter, map, length, Option, Some, None, slice_get, refl, sym, ap, ap₂, subst, ◌∙◌, ◌⊎◌, inl, inr, arith, lt-ltb}
use Rattle.std.specs.Prelude.{◌&&◌, ◌||◌, not}
use Rattle.std.specs.List.{cons_option, find, flat_map, filter_map, list_any, position, position_or_len, AllByRecursion as Each}
use Rattle.std.specs.Option.{is_some, option_map_or}
use Rattle.std.proofs.lemmas.List.Folds.{list_any-append}

pub or_left : (a b : Bool) → a ≡ true → (a || b) ≡ true
or_left a b e = ap (λ c. c || b) e

pub or_right : (a b : Bool) → b ≡ true → (a || b) ≡ true
or_right true b e = refl
or_right false b e = e

pub or_cases : (a b : Bool) → (a || b) ≡ true → (a ≡ true) ⊎ (b ≡ true)
or_cases true b e = inl refl
or_cases false b e = inr e

-- ---- each

pub each_append : {A : Type 0} (P : A → Type 0) (xs ys : List A) → Each P xs → Each P ys → Each P (xs ++ ys)
each_append P [] ys all more = more
each_append P (x ∷ xs) ys all more = (all.0, each_append P xs ys all.1 more)

pub each_filter : {A : Type 0} (P : A → Type 0) (test : A → Bool) (xs : List A) → Each P xs → Each P (filter test xs)
each_filter P test [] all = tt
each_filter P test (x ∷ xs) all = by (test x) (each_filter P test xs all.1)
  where
    by : (b : Bool) → Each P (filter test xs) → Each P (cond b (x ∷ filter test xs) (filter test xs))
    by true more = (all.0, more)
    by false more = more

pub each_of : {A : Type 0} (P : A → Type 0) → ((x : A) → P x) → (xs : List A) → Each P xs
each_of P all [] = tt
each_of P all (x ∷ xs) = (all x, each_of P all xs)

pub each_weaker : {A : Type 0} (P Q : A → Type 0) → ((x : A) → P x → Q x) → (xs : List A) → Each P xs → Each Q xs
each_weaker P Q weaker [] all = tt
each_weaker P Q weaker (x ∷ xs) all = (weaker x all.0, each_weaker P Q weaker xs all.1)

-- of those that pass, that they do
pub each_passed : {A : Type 0} (P : A → Type 0) (test : A → Bool) (xs : List A) → Each P xs → Each (λ x. P x × (test x ≡ true)) (filter test xs)
each_passed P test [] all = tt
each_passed P test (x ∷ xs) all = by (test x) refl (each_passed P test xs all.1)
  where
    by : (b : Bool) → test x ≡ b → Each (λ y. P y × (test y ≡ true)) (filter test xs) → Each (λ y. P y × (test y ≡ true)) (cond b (x ∷ filter test xs) (filter test xs))
    by true e more = ((all.0, e), more)
    by false e more = more

pub each_flat : {A B : Type 0} (Q : B → Type 0) (f : A → List B) (xs : List A) → Each (λ x. Each Q (f x)) xs → Each Q (flat_map f xs)
each_flat Q f [] all = tt
each_flat Q f (x ∷ xs) all = each_append Q (f x) (flat_map f xs) all.0 (each_flat Q f xs all.1)

pub each_map : {A B : Type 0} (Q : B → Type 0) (f : A → B) (xs : List A) → Each (λ x. Q (f x)) xs → Each Q (map f xs)
each_map Q f [] all = tt
each_map Q f (x ∷ xs) all = (all.0, each_map Q f xs all.1)

-- ---- a member by the tests that it passes

pub IsIn : {A : Type 0} → List A → A → Type 0
IsIn {A} xs x = (p : A → Bool) → p x ≡ true → list_any p xs ≡ true

pub is_in : {A : Type 0} (xs : List A) (x : A) → IsIn xs x → (p : A → Bool) → p x ≡ true → list_any p xs ≡ true
unfolding IsIn
is_in xs x there p e = there p e

members : {A : Type 0} (xs : List A) → Each (IsIn xs) xs
unfolding IsIn
members [] = tt
members {A} (x ∷ xs) =
    (λ p e. or_left (p x) (list_any p xs) e, each_weaker (IsIn xs) (IsIn (x ∷ xs)) (λ y there p e. or_right (p x) (list_any p xs) (there p e)) xs (members xs))

pub all_in : {A : Type 0} (xs : List A) → Each (IsIn xs) xs
all_in xs = members xs

-- what follows for each that passes follows where one does
pub one_passes : {A C : Type 0} (p : A → Bool) (xs : List A) → Each (λ x. p x ≡ true → C) xs → list_any p xs ≡ true → C
one_passes p [] all e = absurd (let no : false ≡ true = e in cc)
one_passes p (x ∷ xs) all e = elim (or_cases (p x) (list_any p xs) e) [
  | inl here ↦ all.0 here
  | inr rest ↦ one_passes p xs all.1 rest
]

pub any_flat : {A B : Type 0} (p : B → Bool) (f : A → List B) (xs : List A) → list_any (λ x. list_any p (f x)) xs ≡ true → list_any p (flat_map f xs) ≡ true
any_flat p f [] e = e
any_flat p f (x ∷ xs) e = list_any-append p (f x) (flat_map f xs) ∙ elim (or_cases (list_any p (f x)) (list_any (λ y. list_any p (f y)) xs) e) [
  | inl here ↦ or_left (list_any p (f x)) (list_any p (flat_map f xs)) here
  | inr rest ↦ or_right (list_any p (f x)) (list_any p (flat_map f xs)) (any_flat p f xs rest)
]

pub any_map : {A B : Type 0} (p : B → Bool) (f : A → B) (xs : List A) → list_any (λ x. p (f x)) xs ≡ list_any p (map f xs)
any_map p f [] = refl
any_map p f (x ∷ xs) = ap (λ b. p (f x) || b) (any_map p f xs)

pub any_filter_map : {A B : Type 0} (p : B → Bool) (g : A → Option B) (xs : List A) → list_any (λ x. option_map_or p (g x) false) xs ≡ list_any p (filter_map g xs)
any_filter_map p g [] = refl
any_filter_map p g (x ∷ xs) = by (g x) (any_filter_map p g xs)
  where
    by : (o : Option _) → list_any (λ y. option_map_or p (g y) false) xs ≡ list_any p (filter_map g xs)
        → (option_map_or p o false || list_any (λ y. option_map_or p (g y) false) xs) ≡ list_any p (cons_option o (filter_map g xs))
    by None e = e
    by (Some y) e = ap (λ b. p y || b) e

-- ---- places

place_fits : {A : Type 0} (p : A → Bool) (xs : List A) → list_any p xs ≡ true → position_or_len p xs < length xs
place_fits p [] e = absurd (let no : false ≡ true = e in cc)
place_fits p (x ∷ xs) e = by (p x) refl (place_fits p xs)
  where
    by : (b : Bool) → p x ≡ b → (list_any p xs ≡ true → position_or_len p xs < length xs) → position_or_len p (x ∷ xs) < length (x ∷ xs)
    by true here rest = let first : position_or_len p (x ∷ xs) ≡ 0 = ap (λ c. cond (not c) (1 + position_or_len p xs) 0) here in omega arith
    by false past rest =
        let on : list_any p xs ≡ true = sym (ap (λ c. c || list_any p xs) past) ∙ e in
        let lt : position_or_len p xs < length xs = rest on in
        let next : position_or_len p (x ∷ xs) ≡ 1 + position_or_len p xs = ap (λ c. cond (not c) (1 + position_or_len p xs) 0) past in
        omega arith

pub place_found : {A : Type 0} (p : A → Bool) (xs : List A) → list_any p xs ≡ true → is_some (position p xs) ≡ true
place_found p xs e = ap (λ c. is_some (cond c (Some (position_or_len p xs)) None)) (lt-ltb (position_or_len p xs) (length xs) (place_fits p xs e))

-- what is found passes, and is a member
pub find_passes : {A : Type 0} (P : A → Type 0) (p : A → Bool) (xs : List A) (x : A) → Each P xs → find p xs ≡ Some x → P x
find_passes P p [] x all e = absurd cc
find_passes {A} P p (y ∷ ys) x all e = by (p y) refl (find_passes P p ys x all.1)
  where
    by : (b : Bool) → p y ≡ b → (find p ys ≡ Some x → P x) → P x
    by true here rest = let same : y ≡ x = cc in subst P same all.0
    by false past rest = rest (sym (ap (λ c. cond c (Some y) (find p ys)) past) ∙ e)

any-filter : {A : Type 0} (test p : A → Bool) (xs : List A) → list_any (λ x. test x && p x) xs ≡ list_any p (filter test xs)
any-filter test p [] = refl
any-filter test p (x ∷ xs) = by (test x) (any-filter test p xs)
  where
    by : (b : Bool) → list_any (λ y. test y && p y) xs ≡ list_any p (filter test xs) → ((b && p x) || list_any (λ y. test y && p y) xs) ≡ list_any p (cond b (x ∷ filter test xs) (filter test xs))
    by true e = ap (λ c. p x || c) e
    by false e = e

-- a member that passes stays where others are left out
pub in_filter : {A : Type 0} (test : A → Bool) (xs : List A) (x : A) → IsIn xs x → test x ≡ true → IsIn (filter test xs) x
unfolding IsIn
in_filter test xs x there passes p e = sym (any-filter test p xs) ∙ there (λ y. test y && p y) (ap₂ (λ a b. a && b) passes e)

pub each_at : {A : Type 0} (P : A → Type 0) (xs : List A) (k : ℕ) (x : A) → Each P xs → slice_get xs k ≡ Some x → P x
each_at P [] k x all at = absurd cc
each_at P (y ∷ ys) zero x all at = let same : y ≡ x = cc in subst P same all.0
each_at P (y ∷ ys) (suc k) x all at = each_at P ys k x all.1 at
