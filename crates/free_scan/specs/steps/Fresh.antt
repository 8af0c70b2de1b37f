-- Names that come one after another, each for the first time: the computation that the code follows.
use Rattle.std.specs.Prelude.{ℕ, Bool, true, not, ◌&&◌, List, [], ◌∷◌, ◌++◌}
use Rattle.free_scan.specs.Clean.{is_among}

abbrev pub are_fresh : List (List ℕ) → List (List ℕ) → Bool
are_fresh before [] = true
are_fresh before (name ∷ names) = not (is_among before name) && are_fresh (before ++ name ∷ []) names
