-- Whether a range meets one of those whose ends are in the order of lower ends, each upper end raised to the greatest one up to it.
use Rattle.std.proofs.Common.{◌≡◌, ℕ, zero, suc, ◌-◌, ◌<◌, ◌≤◌, Bool, true, false, not, ◌&&◌, ◌||◌, List, [], ◌∷◌, length, map, max, get_or, refl, sym, subst, ap, ap₂, ◌∙◌, arith}
use Rattle.std.specs.Prelude.{nat_lt, nat_le}
use Rattle.std.specs.List.{list_any}
use Rattle.std.specs.List.Sorted.{IsNonDecreasingBy, IsPartitionPoint}
use Rattle.std.proofs.lemmas.Bool.Decides.{nat_tests}
use Rattle.const_value.specs.declared.intervals.Reach.{Reach}
use Rattle.const_value.specs.declared.intervals.Span.{Span}
use Rattle.const_value.specs.steps.Intervals.{ends_of, meets, meets_ends, raised}

pub raised_length : (most : ℕ) (ends : List Reach) → length (raised most ends) ≡ length ends
raised_length most [] = refl
raised_length most (r ∷ ends) = ap suc (raised_length (max most r.high) ends)

pub raised_low : (most : ℕ) (ends : List Reach) (k : ℕ) (d : Reach) → k < length ends → (get_or (raised most ends) k d).low ≡ (get_or ends k d).low
raised_low most [] k d less = absurd (omega arith)
raised_low most (r ∷ ends) zero d less = refl
raised_low most (r ∷ ends) (suc k) d less = raised_low (max most r.high) ends k d (omega arith)

pub raised_rises : (ends : List Reach) → IsNonDecreasingBy (λ (r : Reach). r.low) ends → IsNonDecreasingBy (λ (r : Reach). r.low) (raised 0 ends)
raised_rises ends rising i j d le less =
    let short : j < length ends = subst (λ n. j < n) (raised_length 0 ends) less in
    let first : (get_or (raised 0 ends) i d).low ≡ (get_or ends i d).low = raised_low 0 ends i d (omega arith) in
    let second : (get_or (raised 0 ends) j d).low ≡ (get_or ends j d).low = raised_low 0 ends j d short in
    let rise : (get_or ends i d).low ≤ (get_or ends j d).low = rising i j d le short in
    omega (arith, first, second, rise)

-- the greatest upper end of the first so many
abbrev high_of : ℕ → List Reach → ℕ → ℕ
high_of most ends zero = most
high_of most [] (suc c) = most
high_of most (r ∷ ends) (suc c) = high_of (max most r.high) ends c

raised_high : (most : ℕ) (ends : List Reach) (k : ℕ) (d : Reach) → k < length ends → (get_or (raised most ends) k d).high ≡ high_of most ends (suc k)
raised_high most [] k d less = absurd (omega arith)
raised_high most (r ∷ ends) zero d less = refl
raised_high most (r ∷ ends) (suc k) d less = raised_high (max most r.high) ends k d (omega arith)

above_zero : (n : ℕ) → max 0 n ≡ n
above_zero n = omega arith

module _ (s : Span) where
  -- the first so many begin where the range ends, or before it; the others behind it
  abbrev AreParted : List Reach → ℕ → Type 0
  AreParted ends c = ((k : ℕ) (d : Reach) → k < c → k < length ends → (get_or ends k d).low ≤ s.high) × ((k : ℕ) (d : Reach) → c ≤ k → k < length ends → s.high < (get_or ends k d).low)

  parted_next : (r : Reach) (ends : List Reach) (c : ℕ) → AreParted (r ∷ ends) (suc c) → AreParted ends c
  parted_next r ends c parted = (λ k d less within. parted.0 (suc k) d (omega arith) (omega arith), λ k d over within. parted.1 (suc k) d (omega arith) (omega arith))

  none_meets : (ends : List Reach) → AreParted ends 0 → list_any (meets_ends s) ends ≡ false
  none_meets [] parted = refl
  none_meets (r ∷ ends) parted =
      let past : s.high < r.low = parted.1 0 r (omega arith) (omega arith) in
      let one : meets_ends s r ≡ false = away (nat_lt r.high s.low) (nat_lt s.high r.low) (grind (arith, nat_tests)) in
      ap₂ ◌||◌ one (none_meets ends (λ k d less within. absurd (omega arith), λ k d over within. parted.1 (suc k) d (omega arith) (omega arith)))
    where
      away : (a b : Bool) → b ≡ true → (not a && not b) ≡ false
      away true b is = refl
      away false b is = ap not is

  meets_high : (r : Reach) → r.low ≤ s.high → meets_ends s r ≡ not (nat_lt r.high s.low)
  meets_high r le = by (nat_lt r.high s.low) (nat_lt s.high r.low) (grind (arith, nat_tests)) where
    by : (a b : Bool) → b ≡ false → (not a && not b) ≡ not a
    by true b is = refl
    by false b is = ap not is

  reached : (most : ℕ) (ends : List Reach) (c : ℕ) → c ≤ length ends → AreParted ends c → not (nat_lt (high_of most ends c) s.low) ≡ (not (nat_lt most s.low) || list_any (meets_ends s) ends)
  reached most ends zero le parted = nothing (not (nat_lt most s.low)) ∙ ap (λ b. not (nat_lt most s.low) || b) (sym (none_meets ends parted)) where
    nothing : (b : Bool) → b ≡ (b || false)
    nothing true = refl
    nothing false = refl
  reached most [] (suc c) le parted = absurd (omega arith)
  reached most (r ∷ ends) (suc c) le parted =
      reached (max most r.high) ends c (omega arith) (parted_next r ends c parted)
      ∙ ap (λ b. b || list_any (meets_ends s) ends) (grown ∙ ap (λ b. not (nat_lt most s.low) || b) (sym (meets_high r (first parted))))
      ∙ joined (not (nat_lt most s.low)) (meets_ends s r) (list_any (meets_ends s) ends)
    where
      first : AreParted (r ∷ ends) (suc c) → r.low ≤ s.high
      first parted = parted.0 0 r (omega arith) (omega arith)

      grown : not (nat_lt (max most r.high) s.low) ≡ (not (nat_lt most s.low) || not (nat_lt r.high s.low))
      grown = grind (arith, nat_tests)

      joined : (a b c : Bool) → ((a || b) || c) ≡ (a || (b || c))
      joined true b c = refl
      joined false b c = refl

  pub meets_some : (ends : List Reach) (c : ℕ) (d : Reach) → c ≤ length ends → ((k : ℕ) (d : Reach) → k < c → k < length ends → (get_or ends k d).low ≤ s.high)
      → ((k : ℕ) (d : Reach) → c ≤ k → k < length ends → s.high < (get_or ends k d).low)
      → (nat_lt 0 c && not (nat_lt (get_or (raised 0 ends) (c - 1) d).high s.low)) ≡ list_any (meets_ends s) ends
  meets_some ends zero d le below above = sym (none_meets ends (below, above))
  meets_some [] (suc c) d le below above = absurd (omega arith)
  meets_some (r ∷ ends) (suc c) d le below above =
      ap (λ t. t && not (nat_lt (get_or (raised 0 (r ∷ ends)) (suc c - 1) d).high s.low)) some
      ∙ ap (λ k. not (nat_lt (get_or (raised 0 (r ∷ ends)) k d).high s.low)) one_less
      ∙ ap (λ h. not (nat_lt h s.low)) (raised_high 0 (r ∷ ends) c d (omega arith))
      ∙ tail
    where
      some : nat_lt 0 (suc c) ≡ true
      some = grind (arith, nat_tests)

      one_less : suc c - 1 ≡ c
      one_less = omega arith

      tail : not (nat_lt (high_of 0 (r ∷ ends) (suc c)) s.low) ≡ list_any (meets_ends s) (r ∷ ends)
      tail =
          ap (λ m. not (nat_lt (high_of m ends c) s.low)) (above_zero r.high) ∙ reached r.high ends c (omega arith) (parted_next r ends c (below, above))
          ∙ ap (λ b. b || list_any (meets_ends s) ends) (sym (meets_high r (below 0 r (omega arith) (omega arith))))

-- ---- where the ends that begin up to the range's end are parted from the others

below_parted : (low high : ℕ) → nat_le low high ≡ true → low ≤ high
below_parted low high e = grind (arith, nat_tests)

above_parted : (low high : ℕ) → nat_le low high ≡ false → high < low
above_parted low high e = grind (arith, nat_tests)

some_count : (c a b : ℕ) (t : Bool) → 0 < c → (nat_lt 0 c && not (nat_lt a b)) ≡ t → nat_le b a ≡ t
some_count c a b t some e = same ∙ e where
  some_yes : nat_lt 0 c ≡ true
  some_yes = grind (arith, nat_tests)

  turned : nat_le b a ≡ not (nat_lt a b)
  turned = grind (arith, nat_tests)

  same : nat_le b a ≡ (nat_lt 0 c && not (nat_lt a b))
  same = turned ∙ ap (λ t. t && not (nat_lt a b)) (sym some_yes)

no_count : (c : ℕ) (b t : Bool) → c ≤ 0 → (nat_lt 0 c && b) ≡ t → nat_lt 0 c ≡ t
no_count c b t none e =
    let no : nat_lt 0 c ≡ false = grind (arith, nat_tests) in
    no ∙ ap (λ t. t && b) (sym no) ∙ e

module _ (s : Span) (sorted ends : List Reach) (c : ℕ) (rising : IsNonDecreasingBy (λ (r : Reach). r.low) ends) (same : sorted ≡ raised 0 ends) (within : c ≤ length sorted)
    (parted : IsPartitionPoint (λ (r : Reach). nat_le r.low s.high ≡ true) (λ (r : Reach). nat_le r.low s.high ≡ false) sorted c) where
  sized : length sorted ≡ length ends
  sized = ap length same ∙ raised_length 0 ends

  low_of : (k : ℕ) (d : Reach) → k < length ends → (get_or sorted k d).low ≡ (get_or ends k d).low
  low_of k d less = ap (λ rs. (get_or rs k d).low) same ∙ raised_low 0 ends k d less

  points : (d : Reach) → (nat_lt 0 c && not (nat_lt (get_or sorted (c - 1) d).high s.low)) ≡ list_any (meets_ends s) ends
  points d =
      ap (λ rs. nat_lt 0 c && not (nat_lt (get_or rs (c - 1) d).high s.low)) same
      ∙ meets_some s ends c d (subst (λ n. c ≤ n) sized within)
      (λ k d less in_ends. subst (λ n. n ≤ s.high) (low_of k d in_ends) (below_parted (get_or sorted k d).low s.high (parted.0 k d (omega arith) less)))
      (λ k d over in_ends. subst (λ n. s.high < n) (low_of k d in_ends) (above_parted (get_or sorted k d).low s.high (parted.1 k d over (subst (λ n. k < n) (sym sized) in_ends))))

  pub points_some : (d : Reach) → 0 < c → nat_le s.low (get_or sorted (c - 1) d).high ≡ list_any (meets_ends s) ends
  points_some d some = some_count c (get_or sorted (c - 1) d).high s.low (list_any (meets_ends s) ends) some (points d)

  pub points_none : (d : Reach) → c ≤ 0 → nat_lt 0 c ≡ list_any (meets_ends s) ends
  points_none d none = no_count c (not (nat_lt (get_or sorted (c - 1) d).high s.low)) (list_any (meets_ends s) ends) none (points d)

pub sorted_rises : (sorted ends : List Reach) → IsNonDecreasingBy (λ (r : Reach). r.low) ends → sorted ≡ raised 0 ends → IsNonDecreasingBy (λ (r : Reach). r.low) sorted
sorted_rises sorted ends rising same = subst (λ rs. IsNonDecreasingBy (λ (r : Reach). r.low) rs) (sym same) (raised_rises ends rising)

-- ---- of spans

pub any_ends : (s : Span) (spans : List Span) → list_any (meets_ends s) (map ends_of spans) ≡ list_any (meets s) spans
any_ends s [] = refl
any_ends s (other ∷ spans) = ap (λ b. meets s other || b) (any_ends s spans)
