-- One end more in a table of ends.
use Rattle.std.proofs.Common.{◌≡◌, ℕ, max, Bool, true, false, ◌&&◌, cond, nat_eq, Option, Some, refl, ◌∙◌, ap}
use Rattle.std.proofs.lemmas.Bool.{eqb-true}
use Rattle.std.specs.Option.{unwrap_or}

pub ended : (before : ℕ → ℕ → ℕ) (block scope number place most end : ℕ) (now was : Option ℕ) → unwrap_or was 0 ≡ before number place → most ≡ max (before block scope) end
    → now ≡ cond (nat_eq block number && nat_eq scope place) (Some most) was
    → unwrap_or now 0 ≡ cond (nat_eq block number && nat_eq scope place) (max (before number place) end) (before number place)
ended before block scope number place most end now was had greatest is =
    ap (λ (o : Option ℕ). unwrap_or o 0) is ∙ by_case (nat_eq block number) (nat_eq scope place) refl refl
  where
    by_case : (a b : Bool) → nat_eq block number ≡ a → nat_eq scope place ≡ b → unwrap_or (cond (a && b) (Some most) was) 0 ≡ cond (a && b) (max (before number place) end) (before number place)
    by_case true true e f = greatest ∙ ap (λ (k : ℕ). max (before k scope) end) (eqb-true block number e) ∙ ap (λ (k : ℕ). max (before number k) end) (eqb-true scope place f)
    by_case true false e f = had
    by_case false b e f = had
