-- How far the objects of other groups reach, for the proofs of the code.
use Rattle.std.specs.Prelude.{ℕ, nat_eq, if◌then◌else◌}

-- some group reaches farthest, to that end, and all others to the other end
abbrev pub beside_of : ℕ → ℕ → ℕ → ℕ → ℕ
beside_of group end other asked = if nat_eq group asked then other else end
