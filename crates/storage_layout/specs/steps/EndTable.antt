-- The table of ends, for the proofs of the code.
use Rattle.std.specs.Prelude.{ℕ, ◌&&◌, Bool, nat_eq}
use Rattle.std.specs.Option.{unwrap_or}
use Rattle.indexmap.specs.IndexMap.{IndexMap, get}

abbrev pub same_key : ℕ × ℕ → ℕ × ℕ → Bool
same_key one other = nat_eq one.0 other.0 && nat_eq one.1 other.1

abbrev pub end_in : {H : Type 0} → IndexMap (ℕ × ℕ) ℕ H → ℕ → ℕ → ℕ
end_in ends number scope = unwrap_or (get same_key ends (number, scope)) 0
