-- Numbers of elements and units.
use Rattle.std.proofs.Common.{inl, inr, ◌≡◌, ◌≤◌, ◌<◌, ◌+◌, ◌-◌, ◌*◌, ℕ, zero, suc, List, [], ◌∷◌, length, take, refl, ap, subst, ◌∙◌, arith}
use Rattle.std.specs.Prelude.{ℤ, pos, negsuc, ◌⊎◌, Bool, true, false, ◌&&◌, ◌+ℤ◌, ◌-ℤ◌, int_lt, int_le, nat_lt, if◌then◌else◌, sum_by, slice_get, Option, Some, None}
use Rattle.std.proofs.lemmas.Bool.Decides.{nat_tests}
use Rattle.std.proofs.lemmas.Int.{ints}
use Rattle.std.proofs.lemmas.List.Sums.{sum_by-cons}
use Rattle.std.proofs.Math.Nat.{mul-le-mul_right}
use Rattle.core_prog.specs.declared.storage.Area.{Area}
use Rattle.ftn_tree.specs.Arrays.{Axis, place_in, among, element, part, at_least_zero, span}

-- an element's units are among those of all
pub within_element : (count n unit k : ℕ) → n < count → k ≤ unit - 1 → n * unit + k ≤ count * unit - 1
within_element count n unit k h q =
    let more : suc n * unit ≤ count * unit = mul-le-mul_right unit h in
    let next : suc n * unit ≡ n * unit + unit = omega arith in
    let few : unit ≡ 0 → n * unit ≡ 0 = λ e. ap (λ u. n * u) e ∙ omega arith in
    by_unit unit (n * unit) (count * unit) (suc n * unit) k more next few q
  where
    by_unit : (unit before all upto k : ℕ) → upto ≤ all → upto ≡ before + unit → (unit ≡ 0 → before ≡ 0) → k ≤ unit - 1 → before + k ≤ all - 1
    by_unit zero before all upto k m e f q = let z : before ≡ 0 = f refl in omega arith
    by_unit (suc unit) before all upto k m e f q = omega arith

-- so are those from the element to the end
pub within_rest : (count n unit k : ℕ) → (n < count) ⊎ (n ≡ 0) → k ≤ (count - n) * unit - 1 → n * unit + k ≤ count * unit - 1
within_rest count n unit k (inr e) q =
    let none : n * unit ≡ 0 = ap (λ m. m * unit) e ∙ omega arith in
    let all : (count - n) * unit ≡ count * unit = ap (λ m. (count - m) * unit) e ∙ ap (λ m. m * unit) (omega arith) in
    omega arith
within_rest count n unit k (inl h) q =
    let parts : (n + (count - n)) * unit ≡ n * unit + (count - n) * unit = omega arith in
    let whole : (n + (count - n)) * unit ≡ count * unit = ap (λ m. m * unit) (omega arith) in
    let more : 1 * unit ≤ (count - n) * unit = mul-le-mul_right unit (omega arith) in
    let few : unit ≡ 0 → n * unit ≡ 0 = λ e. ap (λ u. n * u) e ∙ omega arith in
    let none : unit ≡ 0 → (count - n) * unit ≡ 0 = λ e. ap (λ u. (count - n) * u) e ∙ omega arith in
    by_unit unit (n * unit) ((count - n) * unit) (count * unit) k (omega arith) (omega arith) few none q
  where
    by_unit : (unit before rest all k : ℕ) → unit ≤ rest → all ≡ before + rest → (unit ≡ 0 → before ≡ 0) → (unit ≡ 0 → rest ≡ 0) → k ≤ rest - 1 → before + k ≤ all - 1
    by_unit zero before rest all k m e f g q = let z : before ≡ 0 = f refl in let y : rest ≡ 0 = g refl in omega arith
    by_unit (suc unit) before rest all k m e f g q = omega arith

among_below : (count : ℕ) (o : Option ℕ) (n : ℕ) → among count o ≡ Some n → n < count
among_below count None n e = absurd (cc (e))
among_below count (Some m) n e = tested (nat_lt m count) (λ q. grind (arith, nat_tests)) e
  where
    tested : (yes : Bool) → (yes ≡ true → m < count) → (if yes then Some m else None) ≡ Some n → n < count
    tested true h e = let s : m ≡ n = cc (e) in let q : m < count = h refl in omega arith
    tested false h e = absurd (cc (e))

-- with subscripts, or where there is an element
pub element_below : (count : ℕ) (axes : List Axis) (zs : List ℤ) (n : ℕ) → (zs ≡ [] → count ≡ 1) → element count axes zs ≡ Some n → n < count
element_below count axes [] n h e = let one : count ≡ 1 = h refl in let z : 0 ≡ n = cc (e) in omega arith
element_below count axes (z ∷ zs) n h e = among_below count (place_in axes (z ∷ zs)) n e

at_least : (z : ℤ) → int_le (pos 0) z ≡ true → pos (at_least_zero z) ≡ z
at_least (pos n) h = refl
at_least (negsuc n) h = absurd (grind (arith, ints))

one_less : (low : ℤ) → int_le (pos 1) low ≡ true → int_le (pos 0) (low -ℤ pos 1) ≡ true
one_less low h = grind (arith, ints)

one_more : (low high : ℤ) → int_lt high low ≡ false → int_le (pos 0) ((high -ℤ low) +ℤ pos 1) ≡ true
one_more low high h = grind (arith, ints)

within_ends : (x y n k : ℕ) (low high : ℤ) → pos x ≡ low -ℤ pos 1 → pos y ≡ (high -ℤ low) +ℤ pos 1 → int_le (pos 1) low ≡ true → int_le high (pos n) ≡ true → int_lt high low ≡ false → k ≤ y - 1 → x + k ≤ n - 1
within_ends x y n k low high e f h j l q = grind (arith, ints)

-- 6.1.1: the units of a substring are among those of the element
pub part_first : (length : ℕ) (range : Option (ℤ × ℤ)) (s : ℕ × ℕ) → part length range ≡ Some s → (k : ℕ) → k ≤ s.1 - 1 → s.0 + k ≤ length - 1
part_first length None s e k q = let f : (0, length) ≡ s = cc (e) in subst (λ t. k ≤ t.1 - 1 → t.0 + k ≤ length - 1) f (λ r. omega arith) q
part_first length (Some (low, high)) s e k q = empty_or (int_lt high low) refl e
  where
    ends : (low high : ℤ) (n : ℕ) → int_le (pos 1) low ≡ true → int_le high (pos n) ≡ true → (k : ℕ) → k ≤ span low high - 1 → int_lt high low ≡ false → at_least_zero (low -ℤ pos 1) + k ≤ n - 1
    ends low high n h j k q l =
        let x : pos (at_least_zero (low -ℤ pos 1)) ≡ low -ℤ pos 1 = at_least (low -ℤ pos 1) (one_less low h) in
        let y : pos (at_least_zero ((high -ℤ low) +ℤ pos 1)) ≡ (high -ℤ low) +ℤ pos 1 = at_least ((high -ℤ low) +ℤ pos 1) (one_more low high l) in
        within_ends (at_least_zero (low -ℤ pos 1)) (at_least_zero ((high -ℤ low) +ℤ pos 1)) n k low high x y h j l q

    inside : (yes : Bool) → int_lt high low ≡ false → (yes ≡ true → (int_le (pos 1) low ≡ true) × (int_le high (pos length) ≡ true)) → (if yes then Some (at_least_zero (low -ℤ pos 1), span low high) else None) ≡ Some s → s.0 + k ≤ length - 1
    inside true l h e = let f : (at_least_zero (low -ℤ pos 1), span low high) ≡ s = cc (e) in let both = h refl in
        subst (λ t. k ≤ t.1 - 1 → t.0 + k ≤ length - 1) f (λ r. ends low high length both.0 both.1 k r l) q
    inside false l h e = absurd (cc (e))

    both_true : (a b : Bool) → a && b ≡ true → (a ≡ true) × (b ≡ true)
    both_true true true h = (refl, refl)
    both_true true false h = absurd (cc (h))
    both_true false b h = absurd (cc (h))

    empty_or : (yes : Bool) → int_lt high low ≡ yes → (if yes then Some (0, 0) else if int_le (pos 1) low && int_le high (pos length) then Some (at_least_zero (low -ℤ pos 1), span low high) else None) ≡ Some s → s.0 + k ≤ length - 1
    empty_or true l e = let f : (0, 0) ≡ s = cc (e) in subst (λ t. k ≤ t.1 - 1 → t.0 + k ≤ length - 1) f (λ r. omega arith) q
    empty_or false l e = inside (int_le (pos 1) low && int_le high (pos length)) l (both_true (int_le (pos 1) low) (int_le high (pos length))) e

-- areas lie among all units
pub area_end : (areas : List Area) (n : ℕ) (area : Area) → slice_get areas n ≡ Some area → sum_by (λ (a : Area). a.size) (take n areas) + area.size ≤ sum_by (λ (a : Area). a.size) areas
area_end [] n area e = absurd (cc (e))
area_end (a ∷ areas) zero area e =
    let same : a ≡ area = cc (e) in let size : a.size ≡ area.size = ap (λ (b : Area). b.size) same in
    let sum : sum_by (λ (a : Area). a.size) (a ∷ areas) ≡ a.size + sum_by (λ (a : Area). a.size) areas = sum_by-cons (λ (a : Area). a.size) a areas in omega arith
area_end (a ∷ areas) (suc n) area e =
    let rest : sum_by (λ (a : Area). a.size) (take n areas) + area.size ≤ sum_by (λ (a : Area). a.size) areas = area_end areas n area e in
    let sum : sum_by (λ (a : Area). a.size) (a ∷ areas) ≡ a.size + sum_by (λ (a : Area). a.size) areas = sum_by-cons (λ (a : Area). a.size) a areas in
    let part : sum_by (λ (a : Area). a.size) (a ∷ take n areas) ≡ a.size + sum_by (λ (a : Area). a.size) (take n areas) = sum_by-cons (λ (a : Area). a.size) a (take n areas) in omega arith
