-- The first of the places at which a text breaks a rule is found.
use Rattle.std.proofs.Common.{◌≡◌, ℕ, ◌≤◌, ◌<◌, ◌⊎◌, inl, inr, Bool, true, false, List, [], ◌∷◌, ◌++◌, Option, None, Some, refl, sym, ◌∙◌, arith, append_assoc, append-nil}
use Rattle.std.specs.Prelude.{◌&&◌, ◌||◌, ◌==◌, nat_lt}
use Rattle.std.proofs.lemmas.Bool.{cond_both, ltb-true, ltb-false}
use Rattle.std.proofs.lemmas.Bool.Decides.{nat_tests}
use Rattle.ftn_tree.specs.Breaks.{Among, Breach, IsFirst, rank}
use Rattle.free_scan.specs.steps.Firsts.{comes_before, earlier, least, merged, IsFirstOf}

abbrev pub NotAfter : Breach → Breach → Type 0
NotAfter breach other = (breach.0 < other.0) ⊎ ((breach.0 ≡ other.0) × (rank breach.1 ≤ rank other.1))

same : (m n : ℕ) → m == n ≡ true → m ≡ n
same m n is = grind (arith, nat_tests)

not_same : (m n : ℕ) → m == n ≡ false → n ≤ m → n < m
not_same m n is up = grind (arith, nat_tests)

-- it comes before
before : (a b : Breach) → comes_before a b ≡ true → (a.0 < b.0) ⊎ ((a.0 ≡ b.0) × (rank a.1 ≤ rank b.1))
before a b is = by (nat_lt a.0 b.0) refl (a.0 == b.0) refl (nat_lt (rank a.1) (rank b.1)) refl is
  where
    by : (x : Bool) → nat_lt a.0 b.0 ≡ x → (y : Bool) → a.0 == b.0 ≡ y → (z : Bool) → nat_lt (rank a.1) (rank b.1) ≡ z → (x || (y && z)) ≡ true
        → (a.0 < b.0) ⊎ ((a.0 ≡ b.0) × (rank a.1 ≤ rank b.1))
    by true e y f z g is = inl (ltb-true a.0 b.0 e)
    by false e true f true g is = let up : rank a.1 < rank b.1 = ltb-true (rank a.1) (rank b.1) g in inr (same a.0 b.0 f, omega arith)
    by false e true f false g is = absurd (cc)
    by false e false f z g is = absurd (cc)

-- it doesn't
not_before : (a b : Breach) → comes_before a b ≡ false → NotAfter b a
not_before a b is = by (nat_lt a.0 b.0) refl (a.0 == b.0) refl (nat_lt (rank a.1) (rank b.1)) refl is
  where
    by : (x : Bool) → nat_lt a.0 b.0 ≡ x → (y : Bool) → a.0 == b.0 ≡ y → (z : Bool) → nat_lt (rank a.1) (rank b.1) ≡ z → (x || (y && z)) ≡ false → NotAfter b a
    by true e y f z g is = absurd (cc)
    by false e true f true g is = absurd (cc)
    by false e true f false g is = inr (sym (same a.0 b.0 f), ltb-false (rank a.1) (rank b.1) g)
    by false e false f z g is = inl (not_same a.0 b.0 f (ltb-false a.0 b.0 e))

onward : (a b c : Breach) → NotAfter a b → NotAfter b c → NotAfter a c
onward a b c (inl x) (inl y) = inl (omega arith)
onward a b c (inl x) (inr y) = inl (omega (arith, y.0))
onward a b c (inr x) (inl y) = inl (omega (arith, x.0))
onward a b c (inr x) (inr y) = inr (x.0 ∙ y.0, omega (arith, x.1, y.1))

among_left : (b : Breach) (xs ys : List Breach) → Among b xs → Among b (xs ++ ys)
among_left b [] ys is = absurd is
among_left b (x ∷ xs) ys (inl is) = inl is
among_left b (x ∷ xs) ys (inr is) = inr (among_left b xs ys is)

among_right : (b : Breach) (xs ys : List Breach) → Among b ys → Among b (xs ++ ys)
among_right b [] ys is = is
among_right b (x ∷ xs) ys is = inr (among_right b xs ys is)

pub among_either : (b : Breach) (xs ys : List Breach) → Among b (xs ++ ys) → Among b xs ⊎ Among b ys
among_either b [] ys is = inr is
among_either b (x ∷ xs) ys (inl is) = inl (inl is)
among_either b (x ∷ xs) ys (inr is) = up (among_either b xs ys is)
  where
    up : Among b xs ⊎ Among b ys → Among b (x ∷ xs) ⊎ Among b ys
    up (inl left) = inl (inr left)
    up (inr right) = inr right

first_right : (a b : Breach) (xs ys : List Breach) → NotAfter b a → IsFirst a xs → IsFirst b ys → IsFirst b (xs ++ ys)
first_right a b xs ys up left right = record { among = among_right b xs ys right.among; least = λ other is. by other (among_either other xs ys is) }
  where
    by : (other : Breach) → Among other xs ⊎ Among other ys → NotAfter b other
    by other (inl is) = onward b a other up (left.least other is)
    by other (inr is) = right.least other is

first_left : (a b : Breach) (xs ys : List Breach) → NotAfter a b → IsFirst a xs → IsFirst b ys → IsFirst a (xs ++ ys)
first_left a b xs ys up left right = record { among = among_left a xs ys left.among; least = λ other is. by other (among_either other xs ys is) }
  where
    by : (other : Breach) → Among other xs ⊎ Among other ys → NotAfter a other
    by other (inl is) = left.least other is
    by other (inr is) = onward a b other up (right.least other is)

both_firsts : (a b : Breach) (xs ys : List Breach) → IsFirst a xs → IsFirst b ys → IsFirstOf (earlier (Some a) b) (xs ++ ys)
both_firsts a b xs ys left right =
    cond_both (comes_before b a) _ _ (λ found. IsFirstOf found (xs ++ ys)) (λ e. first_right a b xs ys (before b a e) left right) (λ e. first_left a b xs ys (not_before b a e) left right)

-- the first of two searches
pub merged_firsts : (a b : Option Breach) (xs ys : List Breach) → IsFirstOf a xs → IsFirstOf b ys → IsFirstOf (merged a b) (xs ++ ys)
merged_firsts a None xs ys left right = rw right (rw (append-nil xs) left)
merged_firsts None (Some b) xs ys left right = rw left right
merged_firsts (Some a) (Some b) xs ys left right = both_firsts a b xs ys left right

alone : (b : Breach) → IsFirst b (b ∷ [])
alone b = record { among = inl refl; least = by }
  where
    by : (other : Breach) → Among other (b ∷ []) → NotAfter b other
    by other (inl is) = rw is (inr (refl, omega arith))
    by other (inr is) = absurd is

first_on : (found : Option Breach) (seen bs : List Breach) → IsFirstOf found seen → IsFirstOf (least found bs) (seen ++ bs)
first_on found seen [] is = rw (append-nil seen) is
first_on found seen (b ∷ bs) is =
    rw (← append_assoc seen (b ∷ []) bs) (first_on (earlier found b) (seen ++ b ∷ []) bs (merged_firsts found (Some b) seen (b ∷ []) is (alone b)))

-- the first of all
pub first_of_all : (bs : List Breach) → IsFirstOf (least None bs) bs
first_of_all bs = first_on None [] bs refl
