-- Tests of each element of a list.
use Rattle.std.proofs.Common.{◌≡◌, Bool, true, false, cond, not, ◌&&◌, ◌||◌, List, [], ◌∷◌, ◌++◌, map, filter, find, flat_map, Some, None, refl}
use Rattle.std.specs.List.{list_all}
use Rattle.std.proofs.lemmas.Bool.{and_parts, and_from}

-- what passes one test passes another
pub all_weaken : {X : Type 0} (p q : X → Bool) → ((x : X) → p x ≡ true → q x ≡ true) → (xs : List X) → list_all p xs ≡ true → list_all q xs ≡ true
all_weaken p q h [] a = refl
all_weaken p q h (x ∷ xs) a = let s = and_parts (p x) (list_all p xs) a in and_from (q x) (list_all q xs) (h x s.0) (all_weaken p q h xs s.1)

-- what passes two tests passes a third
pub all_both : {X : Type 0} (p q r : X → Bool) → ((x : X) → p x ≡ true → q x ≡ true → r x ≡ true) → (xs : List X) → list_all p xs ≡ true → list_all q xs ≡ true → list_all r xs ≡ true
all_both p q r h [] a b = refl
all_both p q r h (x ∷ xs) a b =
    let s = and_parts (p x) (list_all p xs) a in
    let t = and_parts (q x) (list_all q xs) b in
    and_from (r x) (list_all r xs) (h x s.0 t.0) (all_both p q r h xs s.1 t.1)

-- all of two lists together, and of each
pub all_append_parts : {X : Type 0} (p : X → Bool) (xs ys : List X) → list_all p (xs ++ ys) ≡ true → (list_all p xs ≡ true) × (list_all p ys ≡ true)
all_append_parts p [] ys a = (refl, a)
all_append_parts p (x ∷ xs) ys a =
    let s = and_parts (p x) (list_all p (xs ++ ys)) a in
    let r = all_append_parts p xs ys s.1 in
    (and_from (p x) (list_all p xs) s.0 r.0, r.1)

-- and back
pub all_append : {X : Type 0} (p : X → Bool) (xs ys : List X) → list_all p xs ≡ true → list_all p ys ≡ true → list_all p (xs ++ ys) ≡ true
all_append p [] ys a b = b
all_append p (x ∷ xs) ys a b = let s = and_parts (p x) (list_all p xs) a in and_from (p x) (list_all p (xs ++ ys)) s.0 (all_append p xs ys s.1 b)

-- all of the lists that are joined, and of each list
pub all_flat_parts : {X Y : Type 0} (p : Y → Bool) (h : X → List Y) (xs : List X) → list_all p (flat_map h xs) ≡ true → list_all (λ x. list_all p (h x)) xs ≡ true
all_flat_parts p h [] a = refl
all_flat_parts p h (x ∷ xs) a =
    let s = all_append_parts p (h x) (flat_map h xs) a in
    and_from (list_all p (h x)) (list_all (λ x. list_all p (h x)) xs) s.0 (all_flat_parts p h xs s.1)

-- and back
pub all_flat : {X Y : Type 0} (p : Y → Bool) (h : X → List Y) (xs : List X) → list_all (λ x. list_all p (h x)) xs ≡ true → list_all p (flat_map h xs) ≡ true
all_flat p h [] a = refl
all_flat p h (x ∷ xs) a =
    let s = and_parts (list_all p (h x)) (list_all (λ x. list_all p (h x)) xs) a in
    all_append p (h x) (flat_map h xs) s.0 (all_flat p h xs s.1)

-- what is kept passes, where all pass
pub all_filter : {X : Type 0} (p q : X → Bool) (xs : List X) → list_all p xs ≡ true → list_all p (filter q xs) ≡ true
all_filter p q [] a = refl
all_filter p q (x ∷ xs) a = let s = and_parts (p x) (list_all p xs) a in go (q x) s.0 (all_filter p q xs s.1)
  where
    go : (t : Bool) → p x ≡ true → list_all p (filter q xs) ≡ true → list_all p (cond t (x ∷ filter q xs) (filter q xs)) ≡ true
    go true h r = and_from (p x) (list_all p (filter q xs)) h r
    go false h r = r

-- each passes, where those that are kept do
pub all_from_filter : {X : Type 0} (p q : X → Bool) (xs : List X) → list_all p (filter q xs) ≡ true → list_all (λ x. not (q x) || p x) xs ≡ true
all_from_filter p q [] a = refl
all_from_filter p q (x ∷ xs) a = go (q x) a (all_from_filter p q xs)
  where
    go : (t : Bool) → list_all p (cond t (x ∷ filter q xs) (filter q xs)) ≡ true → (list_all p (filter q xs) ≡ true → list_all (λ x. not (q x) || p x) xs ≡ true)
        → ((not t || p x) && list_all (λ x. not (q x) || p x) xs) ≡ true
    go true a r = let s = and_parts (p x) (list_all p (filter q xs)) a in and_from (p x) (list_all (λ x. not (q x) || p x) xs) s.0 (r s.1)
    go false a r = r a

-- where nothing is found, nothing passes
pub find_none : {X : Type 0} (p : X → Bool) (xs : List X) → find p xs ≡ None → list_all (λ x. not (p x)) xs ≡ true
find_none p [] e = refl
find_none p (x ∷ xs) e = go (p x) e (find_none p xs)
  where
    go : (t : Bool) → cond t (Some x) (find p xs) ≡ None → (find p xs ≡ None → list_all (λ x. not (p x)) xs ≡ true) → (not t && list_all (λ x. not (p x)) xs) ≡ true
    go true e r = absurd cc
    go false e r = r e

-- maps that agree where the test passes
pub map_agree : {X Y : Type 0} (p : X → Bool) (f g : X → Y) → ((x : X) → p x ≡ true → f x ≡ g x) → (xs : List X) → list_all p xs ≡ true → map f xs ≡ map g xs
map_agree p f g h [] a = refl
map_agree p f g h (x ∷ xs) a =
    let s = and_parts (p x) (list_all p xs) a in
    let e : f x ≡ g x = h x s.0 in
    let r : map f xs ≡ map g xs = map_agree p f g h xs s.1 in
    cc

-- lists and tests made of equal parts
pub cons_same : {X : Type 0} {x y : X} {xs ys : List X} → x ≡ y → xs ≡ ys → x ∷ xs ≡ y ∷ ys
cons_same p q = cc

-- two lists of equal parts, one after the other
pub append_same : {X : Type 0} {xs ys us vs : List X} → xs ≡ ys → us ≡ vs → xs ++ us ≡ ys ++ vs
append_same p q = cc

-- `&&` of equal tests
pub and_same : {a b c d : Bool} → a ≡ b → c ≡ d → (a && c) ≡ (b && d)
and_same p q = cc

-- `||` of equal tests
pub or_same : {a b c d : Bool} → a ≡ b → c ≡ d → (a || c) ≡ (b || d)
or_same p q = cc
