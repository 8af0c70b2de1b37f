-- Modules, which are numbers, and the modules that each one uses (Fortran 90, 11.3).
use Rattle.std.specs.Prelude.{ℕ, ◌<◌, List, [], length, slice_index_or, All, Contains}

-- the modules that this one uses; of a number that is no module, none
abbrev pub used_by : List (List ℕ) → ℕ → List ℕ
used_by uses user = slice_index_or uses user []

abbrev pub Uses : List (List ℕ) → ℕ → ℕ → Type 0
Uses uses user used = Contains (used_by uses user) used

-- what is used is one of the modules
abbrev pub AreKnown : List (List ℕ) → Type 0
AreKnown uses = All (All (λ used. used < length uses)) uses
