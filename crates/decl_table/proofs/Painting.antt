-- Rows that are painted from one statement to another.
use Rattle.std.proofs.Common.{◌≡◌, ℕ, zero, suc, ◌+◌, ◌≤◌, ◌<◌, Bool, true, false, ◌&&◌, [], ◌∷◌, length, set, Option, Some, refl, ap, inl, inr, arith, if◌then◌else◌}
use Rattle.std.specs.Prelude.{nat_le, ◌⊎◌}
use Rattle.std.proofs.lemmas.Bool.Decides.{nat_tests}
use Rattle.decl_table.specs.steps.Rows.{Row, painted_from}

below : (low at ending : ℕ) → at < low → (nat_le low at && nat_le at ending) ≡ false
below low at ending less = grind (arith, nat_tests)

above : (low at ending : ℕ) → ending < at → (nat_le low at && nat_le at ending) ≡ false
above low at ending less = grind (arith, nat_tests)

inside : (low at ending : ℕ) → low ≤ at → at ≤ ending → (nat_le low at && nat_le at ending) ≡ true
inside low at ending first last = grind (arith, nat_tests)

same_above : (low other at ending : ℕ) → low ≤ at → other ≤ at → (nat_le low at && nat_le at ending) ≡ (nat_le other at && nat_le at ending)
same_above low other at ending one two = grind (arith, nat_tests)

-- where painting begins makes no difference after it
paint_low : (at low other ending number : ℕ) (row : Row) → low ≤ at → other ≤ at → painted_from at low ending number row ≡ painted_from at other ending number row
paint_low at low other ending number [] one two = refl
paint_low at low other ending number (here ∷ rest) one two =
    rw (same_above low other at ending one two)
    (ap (λ made. (if nat_le other at && nat_le at ending then Some number else here) ∷ made) (paint_low (at + 1) low other ending number rest (omega arith) (omega arith)))

-- one statement more is painted
paint_one_from : (at low ending number i : ℕ) (row : Row) → low ≡ at + i → i < length row → low ≤ ending
    → painted_from at low ending number row ≡ painted_from at (low + 1) ending number (set row i (Some number))
paint_one_from at low ending number i [] is less room = absurd (omega arith)
paint_one_from at low ending number zero (here ∷ rest) is less room =
    rw (inside low at ending (omega arith) (omega arith), below (low + 1) at ending (omega arith))
    (ap (λ made. Some number ∷ made) (paint_low (at + 1) low (low + 1) ending number rest (omega arith) (omega arith)))
paint_one_from at low ending number (suc i) (here ∷ rest) is less room =
    rw (below low at ending (omega arith), below (low + 1) at ending (omega arith))
    (ap (λ made. here ∷ made) (paint_one_from (at + 1) low ending number i rest (omega arith) (omega arith) room))

pub paint_one : (low ending number : ℕ) (row : Row) → low < length row → low ≤ ending
    → painted_from 0 low ending number row ≡ painted_from 0 (low + 1) ending number (set row low (Some number))
paint_one low ending number row less room = paint_one_from 0 low ending number low row (omega arith) less room

-- nothing is left to paint
paint_none_from : (at low ending number : ℕ) (row : Row) → (at + length row ≤ low) ⊎ (ending < low) → painted_from at low ending number row ≡ row
paint_none_from at low ending number [] done = refl
paint_none_from at low ending number (here ∷ rest) (inl short) =
    rw (below low at ending (omega arith)) (ap (λ made. here ∷ made) (paint_none_from (at + 1) low ending number rest (inl (omega arith))))
paint_none_from at low ending number (here ∷ rest) (inr past) =
    rw (none at) (ap (λ made. here ∷ made) (paint_none_from (at + 1) low ending number rest (inr past)))
  where
    none : (at : ℕ) → (nat_le low at && nat_le at ending) ≡ false
    none at = grind (arith, nat_tests)

pub paint_past : (low ending number : ℕ) (row : Row) → length row ≤ low → painted_from 0 low ending number row ≡ row
paint_past low ending number row short = paint_none_from 0 low ending number row (inl (omega arith))

pub paint_done : (low ending number : ℕ) (row : Row) → ending < low → painted_from 0 low ending number row ≡ row
paint_done low ending number row past = paint_none_from 0 low ending number row (inr past)

-- ---- by places

pub painted_long : (at low ending number : ℕ) (row : Row) → length (painted_from at low ending number row) ≡ length row
painted_long at low ending number [] = refl
painted_long at low ending number (here ∷ rest) = ap suc (painted_long (at + 1) low ending number rest)

chosen : (test : Bool) (number : ℕ) (here : Option ℕ) → Some (if test then Some number else here) ≡ Some (if test then Some number else here)
chosen test number here = refl
