-- Lists of used modules, without where they lie in memory.
use Rattle.std.specs.Prelude.{ℕ, ◌<◌, List, Vec, map, All}

abbrev pub used_lists : {A : Type 0} → List (Vec ℕ A) → List (List ℕ)
used_lists lists = map (λ list. list.items) lists

-- the entries of these lists are modules, where there are so many modules
abbrev pub AreBelow : {A : Type 0} → ℕ → List (Vec ℕ A) → Type 0
AreBelow count lists = All (λ list. All (λ used. used < count) list.items) lists
