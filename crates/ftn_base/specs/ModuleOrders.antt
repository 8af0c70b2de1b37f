-- The order of modules: each after those that it uses, the least ready one first (this project's own).
use Rattle.std.specs.Prelude.{ℕ, ◌<◌, List, length, take, slice_index, All, Contains}
use Rattle.ftn_base.specs.ModuleUses.{used_by}

-- a module that is not there yet, while all that it uses are there
pub record IsReady (uses : List (List ℕ)) (there : List ℕ) (number : ℕ) : Type 0 where
  pub known : number < length uses
  pub absent : Contains there number → ⊥
  pub served : All (Contains there) (used_by uses number)

-- the least module that is ready
pub record IsNext (uses : List (List ℕ)) (there : List ℕ) (number : ℕ) : Type 0 where
  pub ready : IsReady uses there number
  pub least : (lesser : ℕ) → lesser < number → IsReady uses there lesser → ⊥

-- each entry is the least module that is ready after the entries before it
abbrev pub IsGreedy : List (List ℕ) → List ℕ → Type 0
IsGreedy uses list = (k : ℕ) → k < length list → IsNext uses (take k list) (slice_index list k)

-- so, and each module is there
pub record IsOrder (uses : List (List ℕ)) (list : List ℕ) : Type 0 where
  pub each : IsGreedy uses list
  pub all : (number : ℕ) → number < length uses → Contains list number
