-- The value of a row of digits only grows.
use Rattle.std.proofs.Common.{◌≡◌, ℕ, ◌+◌, ◌*◌, ◌-◌, ◌≤◌, ◌^◌, List, [], ◌∷◌, refl, arith, None}
use Rattle.std.specs.Prelude.{fold}
use Rattle.std.proofs.lemmas.Bool.{le-ltb}
use Rattle.ftn_tool.specs.steps.Reading.{below}

abbrev pub add_digit : ℕ → ℕ → ℕ
add_digit n digit = 10 * n + (digit - 48)

pub number_grows : (digits : List ℕ) (n : ℕ) → n ≤ fold add_digit n digits
number_grows [] n = omega arith
number_grows (digit ∷ digits) n = omega (arith, number_grows digits (10 * n + (digit - 48)))

-- a number that is too large already stays so
pub too_large : (whole n : ℕ) → 2 ^ 32 ≤ n → n ≤ whole → below whole ≡ None
too_large whole n large more =
    let enough : 2 ^ 32 ≤ whole = omega arith in
    rw (le-ltb whole (2 ^ 32) enough) refl
