-- Names that are said, each once. It serves the proof alone.
use Rattle.std.specs.Prelude.{ℕ, Bool, if◌then◌else◌, List, [], ◌∷◌, ◌++◌, map}
use Rattle.std.specs.Borrow.{Bor}

abbrev pub lent : List (Bor (List ℕ)) → List (List ℕ)
lent names = map (λ name. name.now) names

-- with one that hasn't come before
abbrev pub with_first : Bool → List ℕ → List (List ℕ) → List (List ℕ)
with_first come name names = if come then names else names ++ name ∷ []
