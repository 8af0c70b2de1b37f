-- A walk over the places of a text.
use Rattle.std.proofs.Common.{◌≡◌, ℕ, ◌<◌, Bool, true, List, [], ◌∷◌, length, Some, refl, arith}
use Rattle.std.specs.List.{position_from}
use Rattle.ftn_base.specs.Places.{places}

-- where a byte is left, the first place of what is left is the present one
pub found_here : (test : ℕ × ℕ → Bool) (place : ℕ × ℕ) (at : ℕ) (rest : List ℕ) → 0 < length rest → test place ≡ true → position_from test at (places place rest) ≡ Some at
found_here test place at [] some holds = absurd (omega arith)
found_here test place at (b ∷ rest) some holds = rw holds refl
