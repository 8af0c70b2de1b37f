-- How often a number is among others, and among those of statements in a row.
use Rattle.std.proofs.Common.{◌≡◌, ℕ, ◌+◌, ◌<◌, ◌≤◌, ◌==◌, Bool, true, false, cond, List, [], ◌∷◌, ◌++◌, length, count_by, refl, sym, ◌∙◌, ap, add-zero, zero-add, suc, arith}
use Rattle.std.proofs.lemmas.Bool.Decides.{nat_tests}
use Rattle.std.proofs.lemmas.List.Sums.{sum_by-cons, sum_by-append}
use Rattle.ftn_tree.specs.declared.mark.Mark.{Mark}

abbrev pub times : ℕ → List ℕ → ℕ
times k numbers = count_by (λ number. number == k) numbers

abbrev pub one : ℕ → ℕ → ℕ
one n k = cond (n == k) 1 0

pub times_more : (k n : ℕ) (numbers : List ℕ) → times k (n ∷ numbers) ≡ one n k + times k numbers
times_more k n numbers = sum_by-cons (λ (number : ℕ). cond (number == k) 1 0) n numbers

pub times_single : (k n : ℕ) → times k (n ∷ []) ≡ one n k
times_single k n = times_more k n [] ∙ omega arith

pub times_joined : (k : ℕ) (some more : List ℕ) → times k (some ++ more) ≡ times k some + times k more
times_joined k some more = sum_by-append (λ (number : ℕ). cond (number == k) 1 0) some more

-- ---- the numbers of statements in a row

abbrev pub span : ℕ → List Mark → ℕ → ℕ
span at [] k = 0
span at (m ∷ marks) k = one at k + span (at + 1) marks k

pub spans_joined : (some more : List Mark) (at k : ℕ) → span at (some ++ more) k ≡ span at some k + span (at + length some) more k
spans_joined [] more at k = ap (λ (n : ℕ). span n more k) (sym (add-zero at)) ∙ sym (zero-add (span (at + 0) more k))
spans_joined (m ∷ some) more at k =
    let rest : span (at + 1) (some ++ more) k ≡ span (at + 1) some k + span (at + 1 + length some) more k = spans_joined some more (at + 1) k in
    let place : at + 1 + length some ≡ at + suc (length some) = omega arith in
    let moved : span (at + 1 + length some) more k ≡ span (at + suc (length some)) more k = ap (λ (n : ℕ). span n more k) place in
    omega (arith, rest, moved)

pub itself : (n : ℕ) → (n == n) ≡ true
itself n = grind (arith, nat_tests)

less : (n k : ℕ) → k < n → (n == k) ≡ false
less n k low = grind (arith, nat_tests)

more : (n k : ℕ) → n < k → (n == k) ≡ false
more n k low = grind (arith, nat_tests)

same_of : (n k : ℕ) → (n == k) ≡ true → n ≡ k
same_of n k e = grind (arith, nat_tests)

other_of : (n k : ℕ) → n ≤ k → (n == k) ≡ false → n + 1 ≤ k
other_of n k low e = grind (arith, nat_tests)

off : (n k : ℕ) → (n == k) ≡ false → one n k ≡ 0
off n k e = ap (λ (b : Bool). cond b 1 0) e

on : (n k : ℕ) → (n == k) ≡ true → one n k ≡ 1
on n k e = ap (λ (b : Bool). cond b 1 0) e

pub span_before : (marks : List Mark) (at k : ℕ) → k < at → span at marks k ≡ 0
span_before [] at k low = refl
span_before (m ∷ marks) at k low =
    let here : one at k ≡ 0 = off at k (less at k low) in
    let rest : span (at + 1) marks k ≡ 0 = span_before marks (at + 1) k (omega (arith, low)) in
    omega (arith, here, rest)

pub span_after : (marks : List Mark) (at k : ℕ) → at + length marks ≤ k → span at marks k ≡ 0
span_after [] at k high = refl
span_after (m ∷ marks) at k high =
    let here : one at k ≡ 0 = off at k (more at k (omega (arith, high))) in
    let rest : span (at + 1) marks k ≡ 0 = span_after marks (at + 1) k (omega (arith, high)) in
    omega (arith, here, rest)

pub span_within : (marks : List Mark) (at k : ℕ) → at ≤ k → k < at + length marks → span at marks k ≡ 1
span_within [] at k low high = absurd (omega (arith, low, high))
span_within (m ∷ marks) at k low high = by (at == k) refl (λ past. span_within marks (at + 1) k past (omega (arith, high)))
  where
    by : (b : Bool) → (at == k) ≡ b → (at + 1 ≤ k → span (at + 1) marks k ≡ 1) → span at (m ∷ marks) k ≡ 1
    by true is again =
        let here : one at k ≡ 1 = on at k is in
        let same : at ≡ k = same_of at k is in
        let rest : span (at + 1) marks k ≡ 0 = span_before marks (at + 1) k (omega (arith, same)) in
        omega (arith, here, rest)
    by false is again =
        let here : one at k ≡ 0 = off at k is in
        let rest : span (at + 1) marks k ≡ 1 = again (other_of at k low is) in
        omega (arith, here, rest)
