-- Texts that are compared byte by byte, the shorter with blanks at its end.
use Rattle.std.proofs.Common.{◌≡◌, ℕ, zero, suc, ◌+◌, ◌-◌, List, [], ◌∷◌, ◌++◌, length, drop, replicate, refl, sym, ap, ◌∙◌, arith}
use Rattle.std.specs.Prelude.{slice_get, unwrap_or}
use Rattle.std.specs.Cmp.Lexicographic.{slice_cmp}
use Rattle.std.specs.declared.cmp.Ordering.{Ordering}
use Rattle.std.specs.declared.cmp.Ordering.TheVariants.{Less, Equal, Greater}
use Rattle.std.specs.Ordering.{nat_cmp, ordering_then}
use Rattle.ftn_tree.specs.Operations.{texts_cmp}

abbrev first : List ℕ → ℕ
first xs = unwrap_or (slice_get xs 0) 32

abbrev both : List ℕ → ℕ → List ℕ → ℕ → Ordering
both a n b m = slice_cmp nat_cmp (a ++ replicate n 32) (b ++ replicate m 32)

as_many : (a b : List ℕ) (n k m l : ℕ) → n ≡ k → m ≡ l → both a n b m ≡ both a k b l
as_many a b n k m l e f = ap (λ x. both a x b m) e ∙ ap (λ x. both a k b x) f

equal_then : (o z : Ordering) → o ≡ Equal → ordering_then o z ≡ z
equal_then o z e = ap (λ x. ordering_then x z) e

other_then : (o z : Ordering) → (o ≡ Equal → ⊥) → ordering_then o z ≡ o
other_then Less z differ = refl
other_then Equal z differ = absurd (differ refl)
other_then Greater z differ = refl

-- the first bytes decide, or what is behind them
by_firsts : (a b : List ℕ) → texts_cmp a b ≡ ordering_then (nat_cmp (first a) (first b)) (texts_cmp (drop 1 a) (drop 1 b))
by_firsts [] [] = refl
by_firsts [] (y ∷ ys) = as_many [] (y ∷ ys) (suc (length ys) - 0) (suc (length ys - 0)) (0 - suc (length ys)) (0 - length ys) (omega arith) (omega arith)
by_firsts (x ∷ xs) [] = as_many (x ∷ xs) [] (0 - suc (length xs)) (0 - length xs) (suc (length xs) - 0) (suc (length xs - 0)) (omega arith) (omega arith)
by_firsts (x ∷ xs) (y ∷ ys) = as_many (x ∷ xs) (y ∷ ys) (suc (length ys) - suc (length xs)) (length ys - length xs) (suc (length xs) - suc (length ys)) (length xs - length ys) (omega arith) (omega arith)

first_at : (xs : List ℕ) (at : ℕ) → first (drop at xs) ≡ unwrap_or (slice_get xs at) 32
first_at [] zero = refl
first_at [] (suc at) = refl
first_at (x ∷ xs) zero = refl
first_at (x ∷ xs) (suc at) = first_at xs at

drop_suc : (xs : List ℕ) (at : ℕ) → drop 1 (drop at xs) ≡ drop (suc at) xs
drop_suc [] zero = refl
drop_suc [] (suc at) = refl
drop_suc (x ∷ xs) zero = refl
drop_suc (x ∷ xs) (suc at) = drop_suc xs at

drop_next : (xs : List ℕ) (at : ℕ) → drop 1 (drop at xs) ≡ drop (at + 1) xs
drop_next xs at = let e : suc at ≡ at + 1 = omega arith in drop_suc xs at ∙ ap (λ n. drop n xs) e

at_place : (a b : List ℕ) (at : ℕ) → texts_cmp (drop at a) (drop at b) ≡ ordering_then (nat_cmp (unwrap_or (slice_get a at) 32) (unwrap_or (slice_get b at) 32)) (texts_cmp (drop (at + 1) a) (drop (at + 1) b))
at_place a b at =
    by_firsts (drop at a) (drop at b)
    ∙ ap (λ x. ordering_then (nat_cmp x (first (drop at b))) (texts_cmp (drop 1 (drop at a)) (drop 1 (drop at b)))) (first_at a at)
    ∙ ap (λ x. ordering_then (nat_cmp (unwrap_or (slice_get a at) 32) x) (texts_cmp (drop 1 (drop at a)) (drop 1 (drop at b)))) (first_at b at)
    ∙ ap (λ x. ordering_then (nat_cmp (unwrap_or (slice_get a at) 32) (unwrap_or (slice_get b at) 32)) (texts_cmp x (drop 1 (drop at b)))) (drop_next a at)
    ∙ ap (λ x. ordering_then (nat_cmp (unwrap_or (slice_get a at) 32) (unwrap_or (slice_get b at) 32)) (texts_cmp (drop (at + 1) a) x)) (drop_next b at)

-- bytes that differ decide
pub decided_at : (a b : List ℕ) (at : ℕ) (how : Ordering) → how ≡ nat_cmp (unwrap_or (slice_get a at) 32) (unwrap_or (slice_get b at) 32) → (how ≡ Equal → ⊥) →
    texts_cmp (drop at a) (drop at b) ≡ texts_cmp a b → how ≡ texts_cmp a b
decided_at a b at how e differ whole =
    sym (other_then how (texts_cmp (drop (at + 1) a) (drop (at + 1) b)) differ)
    ∙ ap (λ o. ordering_then o (texts_cmp (drop (at + 1) a) (drop (at + 1) b))) e
    ∙ sym (at_place a b at) ∙ whole

-- equal ones don't
pub goes_on_behind : (a b : List ℕ) (at : ℕ) → nat_cmp (unwrap_or (slice_get a at) 32) (unwrap_or (slice_get b at) 32) ≡ Equal →
    texts_cmp (drop at a) (drop at b) ≡ texts_cmp a b → texts_cmp (drop (at + 1) a) (drop (at + 1) b) ≡ texts_cmp a b
goes_on_behind a b at e whole =
    sym (equal_then (nat_cmp (unwrap_or (slice_get a at) 32) (unwrap_or (slice_get b at) 32)) (texts_cmp (drop (at + 1) a) (drop (at + 1) b)) e)
    ∙ sym (at_place a b at) ∙ whole
