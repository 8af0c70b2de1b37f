-- Cycles of uses, which the standard forbids (Fortran 90, 11.3.2).
use Rattle.std.specs.Prelude.{ℕ, ◌<◌, ◌≢◌, List, [], ◌∷◌, slice_index, AllPairs}
use Rattle.ftn_base.specs.ModuleUses.{Uses}

-- the first uses the first of those between, each of these the next, and the last of them uses the last
abbrev pub IsChain : List (List ℕ) → ℕ → List ℕ → ℕ → Type 0
IsChain uses first [] last = Uses uses first last
IsChain uses first (next ∷ between) last = Uses uses first next × IsChain uses next between last

-- a chain of uses leads from the module to itself
abbrev pub IsOnCycle : List (List ℕ) → ℕ → Type 0
IsOnCycle uses number = (between : List ℕ) × IsChain uses number between number

-- each module of the list uses the next, and the last uses the first
abbrev pub IsRing : List (List ℕ) → List ℕ → Type 0
IsRing uses [] = ⊥
IsRing uses (first ∷ between) = IsChain uses first between first

-- a cycle without repeats, which begins with the least module that lies on any
pub record IsLeastCycle (uses : List (List ℕ)) (list : List ℕ) : Type 0 where
  pub ring : IsRing uses list
  pub once : AllPairs (λ earlier later. earlier ≢ later) list
  pub least : (lesser : ℕ) → lesser < slice_index list 0 → IsOnCycle uses lesser → ⊥
