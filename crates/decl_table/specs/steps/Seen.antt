-- Names that have come before.
use Rattle.std.specs.Prelude.{ℕ, Bool, List}
use Rattle.std.specs.List.{list_any}
use Rattle.std.specs.Borrow.{Bor}
use Rattle.std.specs.Str.{bytes_eq}
use Rattle.indexmap.specs.IndexSet.{IndexSet}

abbrev pub is_among : List ℕ → List (List ℕ) → Bool
is_among name names = list_any (λ earlier. bytes_eq earlier name) names

abbrev pub has_come : {S : Type 0} → IndexSet (Bor (List ℕ)) S → List ℕ → Bool
has_come seen name = list_any (λ key. bytes_eq key.now name) seen.keys
