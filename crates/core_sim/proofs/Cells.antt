-- Contents put into units, and read from them.
use Rattle.std.proofs.Common.{◌≡◌, ◌<◌, ◌+◌, ℕ, zero, suc, List, [], ◌∷◌, ◌++◌, length, take, drop, refl, sym, ap, ◌∙◌, arith}
use Rattle.std.specs.Prelude.{Bool, true, false, ◌&&◌, ◌||◌, nat_eq, nat_le, nat_lt, if◌then◌else◌, slice_get, slice_set, replicate, Option, Some, None}
use Rattle.std.specs.Option.{option_map}
use Rattle.std.specs.List.{list_any}
use Rattle.std.proofs.lemmas.Bool.Decides.{nat_tests}
use Rattle.core_prog.specs.declared.storage.Area.{Area}
use Rattle.core_prog.specs.declared.storage.Content.{Content}
use Rattle.core_prog.specs.declared.storage.Content.TheVariants.{Nothing}
use Rattle.core_prog.specs.Contents.{stored}
use Rattle.core_prog.specs.Entries.{emptied, is_emptied_by}
use Rattle.core_prog.proofs.Returning.{length_stored}

-- an element replaced, where a test says so
abbrev pub replaced : {A : Type 0} → A → Bool → Option A → Option A
replaced x true o = option_map (λ _. x) o
replaced x false o = o

set_here : {A : Type 0} (xs : List A) (c d : ℕ) (x : A) → d ≡ c → slice_get (slice_set xs c x) d ≡ option_map (λ _. x) (slice_get xs d)
set_here [] c d x h = refl
set_here (y ∷ xs) zero zero x h = refl
set_here (y ∷ xs) zero (suc d) x h = absurd (omega arith)
set_here (y ∷ xs) (suc c) zero x h = absurd (omega arith)
set_here (y ∷ xs) (suc c) (suc d) x h = set_here xs c d x (omega arith)

set_other : {A : Type 0} (xs : List A) (c d : ℕ) (x : A) → (d ≡ c → ⊥) → slice_get (slice_set xs c x) d ≡ slice_get xs d
set_other [] c d x h = refl
set_other (y ∷ xs) zero zero x h = absurd (h refl)
set_other (y ∷ xs) zero (suc d) x h = refl
set_other (y ∷ xs) (suc c) zero x h = refl
set_other (y ∷ xs) (suc c) (suc d) x h = set_other xs c d x (λ e. h (ap suc e))

set_by : {A : Type 0} (xs : List A) (c d : ℕ) (x : A) (yes : Bool) → (yes ≡ true → d ≡ c) → (yes ≡ false → d ≡ c → ⊥) → slice_get (slice_set xs c x) d ≡ replaced x yes (slice_get xs d)
set_by xs c d x true h k = set_here xs c d x (h refl)
set_by xs c d x false h k = set_other xs c d x (k refl)

pub is_eq : (a b : ℕ) → nat_eq a b ≡ true → a ≡ b
is_eq a b h = grind (arith, nat_tests)

pub is_ne : (a b : ℕ) → nat_eq a b ≡ false → a ≡ b → ⊥
is_ne a b h e = grind (arith, nat_tests)

pub set_get : {A : Type 0} (xs : List A) (c d : ℕ) (x : A) → slice_get (slice_set xs c x) d ≡ replaced x (nat_eq d c) (slice_get xs d)
set_get xs c d x = set_by xs c d x (nat_eq d c) (is_eq d c) (is_ne d c)

pub append_get : {A : Type 0} (xs ys : List A) (c : ℕ) → c < length xs → slice_get (xs ++ ys) c ≡ slice_get xs c
append_get [] ys c h = absurd (omega arith)
append_get (x ∷ xs) ys zero h = refl
append_get (x ∷ xs) ys (suc c) h = append_get xs ys c (omega arith)

pub append_past : {A : Type 0} (xs ys : List A) (c d : ℕ) → d ≡ length xs + c → slice_get (xs ++ ys) d ≡ slice_get ys c
append_past [] ys c d h = let e : d ≡ c = omega arith in ap (slice_get ys) e
append_past (x ∷ xs) ys c zero h = absurd (omega arith)
append_past (x ∷ xs) ys c (suc d) h = append_past xs ys c d (omega arith)

pub take_get : {A : Type 0} (n : ℕ) (xs : List A) (c : ℕ) → c < n → slice_get (take n xs) c ≡ slice_get xs c
take_get zero xs c h = absurd (omega arith)
take_get (suc n) [] c h = refl
take_get (suc n) (x ∷ xs) zero h = refl
take_get (suc n) (x ∷ xs) (suc c) h = take_get n xs c (omega arith)

pub same_cut : {A : Type 0} (n : ℕ) (xs ys : List A) → ((k : ℕ) → k < n → slice_get xs k ≡ slice_get ys k) → take n xs ≡ take n ys
same_cut zero xs ys h = refl
same_cut (suc n) [] [] h = refl
same_cut (suc n) [] (y ∷ ys) h = absurd (cc (h 0 (omega arith)))
same_cut (suc n) (x ∷ xs) [] h = absurd (cc (h 0 (omega arith)))
same_cut (suc n) (x ∷ xs) (y ∷ ys) h = let e : Some x ≡ Some y = h 0 (omega arith) in let f : x ≡ y = cc (e) in let g : take n xs ≡ take n ys = same_cut n xs ys (λ k q. h (suc k) (omega arith)) in cc (f, g)

pub drop_get : {A : Type 0} (n : ℕ) (xs : List A) (k at : ℕ) → at ≡ n + k → slice_get (drop n xs) k ≡ slice_get xs at
drop_get zero xs k at h = let e : k ≡ at = omega arith in ap (slice_get xs) e
drop_get (suc n) [] k at h = refl
drop_get (suc n) (x ∷ xs) k zero h = absurd (omega arith)
drop_get (suc n) (x ∷ xs) k (suc at) h = drop_get n xs k at (omega arith)

pub same_from : {A : Type 0} (n first first' : ℕ) (xs ys : List A) → ((k : ℕ) → k < n → slice_get xs (first + k) ≡ slice_get ys (first' + k)) → take n (drop first xs) ≡ take n (drop first' ys)
same_from n first first' xs ys h = same_cut n (drop first xs) (drop first' ys) (λ k q. drop_get first xs k (first + k) refl ∙ h k q ∙ sym (drop_get first' ys k (first' + k) refl))

-- equal tests of places in order
pub same_test : (a b c d : ℕ) → (a ≡ b → c ≡ d) → (c ≡ d → a ≡ b) → nat_eq a b ≡ nat_eq c d
same_test a b c d h k = tested (nat_eq a b) (nat_eq c d) (λ e. eq_is c d (h (is_eq a b e))) (λ e. eq_is a b (k (is_eq c d e)))
  where
    eq_is : (x y : ℕ) → x ≡ y → nat_eq x y ≡ true
    eq_is x y e = grind (arith, nat_tests)

    tested : (p q : Bool) → (p ≡ true → q ≡ true) → (q ≡ true → p ≡ true) → p ≡ q
    tested true q f g = sym (f refl)
    tested false true f g = g refl
    tested false false f g = refl

pub replaced_same : {A : Type 0} (x : A) (b b' : Bool) (o o' : Option A) → b ≡ b' → o ≡ o' → replaced x b o ≡ replaced x b' o'
replaced_same x b b' o o' e f = ap (λ c. replaced x c o) e ∙ ap (replaced x b') f

replaced_twice : {A : Type 0} (x : A) (p q : Bool) (o : Option A) → replaced x p (replaced x q o) ≡ replaced x (q || p) o
replaced_twice x true true None = refl
replaced_twice x true true (Some y) = refl
replaced_twice x true false o = refl
replaced_twice x false true o = refl
replaced_twice x false false o = refl

row_test : (first n c : ℕ) → (nat_eq c first || (nat_le (first + 1) c && nat_lt c (first + 1 + n))) ≡ (nat_le first c && nat_lt c (first + suc n))
row_test first n c = grind (arith, nat_tests)

no_row : (first c : ℕ) → (nat_le first c && nat_lt c (first + 0)) ≡ false
no_row first c = grind (arith, nat_tests)

-- one content put into so many units
pub row_get : (n first c : ℕ) (x : Content) (cells : List Content) → slice_get (stored first (replicate n x) cells) c ≡ replaced x (nat_le first c && nat_lt c (first + n)) (slice_get cells c)
row_get zero first c x cells = ap (λ b. replaced x b (slice_get cells c)) (sym (no_row first c))
row_get (suc n) first c x cells =
    row_get n (first + 1) c x (slice_set cells first x) ∙ ap (replaced x (nat_le (first + 1) c && nat_lt c (first + 1 + n))) (set_get cells first c x)
    ∙ replaced_twice x (nat_le (first + 1) c && nat_lt c (first + 1 + n)) (nat_eq c first) (slice_get cells c) ∙ ap (λ b. replaced x b (slice_get cells c)) (row_test first n c)

emptied_one : (yes : Bool) (area : Area) (cells : List Content) (c : ℕ) →
    slice_get (if yes then stored area.start (replicate area.size Nothing) cells else cells) c ≡ replaced Nothing (yes && (nat_le area.start c && nat_lt c (area.start + area.size))) (slice_get cells c)
emptied_one true area cells c = row_get area.size area.start c Nothing cells
emptied_one false area cells c = refl

pub emptied_get : (number : ℕ) (areas : List Area) (cells : List Content) (c : ℕ) →
    slice_get (emptied number areas cells) c ≡ replaced Nothing (list_any (λ (area : Area). is_emptied_by number area.emptied && (nat_le area.start c && nat_lt c (area.start + area.size))) areas) (slice_get cells c)
emptied_get number [] cells c = refl
emptied_get number (area ∷ areas) cells c =
    emptied_get number areas (if is_emptied_by number area.emptied then stored area.start (replicate area.size Nothing) cells else cells) c
    ∙ ap (replaced Nothing (list_any (λ (area : Area). is_emptied_by number area.emptied && (nat_le area.start c && nat_lt c (area.start + area.size))) areas)) (emptied_one (is_emptied_by number area.emptied) area cells c)
    ∙ replaced_twice Nothing (list_any (λ (area : Area). is_emptied_by number area.emptied && (nat_le area.start c && nat_lt c (area.start + area.size))) areas)
    (is_emptied_by number area.emptied && (nat_le area.start c && nat_lt c (area.start + area.size))) (slice_get cells c)

pub length_emptied : (number : ℕ) (areas : List Area) (cells : List Content) → length (emptied number areas cells) ≡ length cells
length_emptied number [] cells = refl
length_emptied number (area ∷ areas) cells = length_emptied number areas (if is_emptied_by number area.emptied then stored area.start (replicate area.size Nothing) cells else cells) ∙ length_one (is_emptied_by number area.emptied) area cells
  where
    length_one : (yes : Bool) (area : Area) (cells : List Content) → length (if yes then stored area.start (replicate area.size Nothing) cells else cells) ≡ length cells
    length_one true area cells = length_stored area.start (replicate area.size Nothing) cells
    length_one false area cells = refl
