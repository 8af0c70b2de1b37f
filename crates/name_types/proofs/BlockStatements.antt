-- The statements of a scoping unit that stand in an interface block of it.
use Rattle.std.proofs.Common.{◌≡◌, ℕ, zero, suc, ◌+◌, ◌-◌, ◌≤◌, ◌<◌, Bool, true, false, ◌&&◌, List, [], ◌∷◌, if◌then◌else◌, refl, sym, ap, ◌∙◌, arith}
use Rattle.std.specs.Prelude.{nat_le}
use Rattle.std.specs.List.{filter, range_with_len}
use Rattle.std.proofs.lemmas.Bool.Decides.{nat_tests}
use Rattle.ftn_tree.specs.declared.table.Extent.{Extent}
use Rattle.ftn_tree.specs.Extents.{covers}

-- ---- parts of ranges

abbrev between : ℕ → ℕ → ℕ → Bool
between low high s = nat_le low s && nat_le s high

before_it : (low high s : ℕ) → s < low → between low high s ≡ false
before_it low high s less = grind (arith, nat_tests)

after_it : (low high s : ℕ) → high < s → between low high s ≡ false
after_it low high s less = grind (arith, nat_tests)

in_it : (low high s : ℕ) → low ≤ s → s ≤ high → between low high s ≡ true
in_it low high s first last = grind (arith, nat_tests)

past : (low high at n : ℕ) → high < at → filter (between low high) (range_with_len at n) ≡ []
past low high at zero less = refl
past low high at (suc n) less = rw (after_it low high at less) (past low high (at + 1) n (omega (arith, less)))

inside : (low high at k n : ℕ) → low ≤ at → at + k ≡ high + 1 → k ≤ n → filter (between low high) (range_with_len at n) ≡ range_with_len at k
inside low high at zero n first last less = past low high at n (omega (arith, last))
inside low high at (suc k) zero first last less = absurd (omega (arith, less))
inside low high at (suc k) (suc n) first last less =
    rw (in_it low high at first (omega (arith, last)))
    (ap (λ (ss : List ℕ). at ∷ ss) (inside low high (at + 1) k n (omega (arith, first)) (omega (arith, last)) (omega (arith, less))))

part : (d low high at k n : ℕ) → at + d ≡ low → low + k ≡ high + 1 → d + k ≤ n → filter (between low high) (range_with_len at n) ≡ range_with_len low k
part zero low high at k n first last less =
    let same : at ≡ low = omega (arith, first) in
    inside low high at k n (omega (arith, same)) (omega (arith, same, last)) (omega (arith, less)) ∙ ap (λ m. range_with_len m k) same
part (suc d) low high at k zero first last less = absurd (omega (arith, less))
part (suc d) low high at k (suc n) first last less =
    rw (before_it low high at (omega (arith, first))) (part d low high (at + 1) k n (omega (arith, first)) last (omega (arith, less)))

-- ---- tests in either order

in_turn : (one other : ℕ → Bool) (xs : List ℕ) → filter one (filter other xs) ≡ filter other (filter one xs)
in_turn one other [] = refl
in_turn one other (x ∷ xs) = by (one x) (other x) refl refl (in_turn one other xs) where
  by : (a b : Bool) → one x ≡ a → other x ≡ b → filter one (filter other xs) ≡ filter other (filter one xs) → filter one (filter other (x ∷ xs)) ≡ filter other (filter one (x ∷ xs))
  by true true is also rest = rw (is, also) (rw is (ap (λ (ys : List ℕ). x ∷ ys) rest))
  by true false is also rest = rw (is, also) rest
  by false true is also rest = rw (is, also) (rw is rest)
  by false false is also rest = rw (is, also) rest

same_test : (one other : ℕ → Bool) → ((x : ℕ) → one x ≡ other x) → (xs : List ℕ) → filter one xs ≡ filter other xs
same_test one other same [] = refl
same_test one other same (x ∷ xs) = rw (same x) (ap (λ (ys : List ℕ). if other x then x ∷ ys else ys) (same_test one other same xs))

covered : (file s : ℕ) (around : Extent) → around.file ≡ file → covers file s around ≡ between around.opening around.ending s
covered file s around same = grind (arith, nat_tests)

pub block_statements : (test : ℕ → Bool) (e around : Extent) → e.file ≡ around.file → e.opening ≤ around.opening → around.opening ≤ around.ending → around.ending ≤ e.ending
    → filter (λ s. covers e.file s around) (filter test (range_with_len e.opening (e.ending + 1 - e.opening))) ≡ filter test (range_with_len around.opening (around.ending + 1 - around.opening))
block_statements test e around same first order last =
    same_test (λ s. covers e.file s around) (between around.opening around.ending) (λ s. covered e.file s around (sym same)) (filter test (range_with_len e.opening (e.ending + 1 - e.opening)))
    ∙ in_turn (between around.opening around.ending) test (range_with_len e.opening (e.ending + 1 - e.opening))
    ∙ ap (filter test)
    (part (around.opening - e.opening) around.opening around.ending e.opening (around.ending + 1 - around.opening) (e.ending + 1 - e.opening)
    (omega (arith, first)) (omega (arith, order)) (omega (arith, first, order, last)))
