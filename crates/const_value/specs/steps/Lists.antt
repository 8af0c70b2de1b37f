-- Lists of numbers, without where they lie in memory. It serves the proof alone.
use Rattle.std.specs.Prelude.{ℕ, List, Vec, map}

abbrev pub lists_of : {A : Type 0} → List (Vec ℕ A) → List (List ℕ)
lists_of lists = map (λ list. list.items) lists
