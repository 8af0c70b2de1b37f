-- Names in byte order, each once.
use Rattle.std.specs.Prelude.{ℕ, Bool, true, ◌&&◌, List, [], ◌∷◌}
use Rattle.std.specs.Ordering.{is_lt}
use Rattle.ftn_base.specs.Files.{by_name}

-- whether each name is below the next one
abbrev pub rising : List (List ℕ) → Bool
rising [] = true
rising (name ∷ []) = true
rising (name ∷ next ∷ names) = is_lt (by_name name next) && rising (next ∷ names)
