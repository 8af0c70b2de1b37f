-- Numbers of modules that never fall along a use, for the proofs of the code.
use Rattle.std.specs.Prelude.{ℕ, ◌<◌, ◌≤◌, ◌≡◌, ◌⊎◌, List, length, slice_index, count_by, nat_eq, All, Contains}
use Rattle.ftn_base.specs.ModuleUses.{Uses, used_by}

abbrev pub NeverFalls : List (List ℕ) → List ℕ → Type 0
NeverFalls uses numbers = (user used : ℕ) → Uses uses user used → slice_index numbers user ≤ slice_index numbers used

abbrev pub HasNumber : List ℕ → ℕ → Type 0
HasNumber numbers user = 0 < slice_index numbers user

abbrev pub without_number : List ℕ → ℕ
without_number numbers = count_by (λ number. nat_eq number 0) numbers

-- numbers are given, of late this one; the modules of the list may still use some without a number
pub record IsGiving (uses : List (List ℕ)) (number : ℕ) (numbers : List ℕ) (list : List ℕ) : Type 0 where
  pub sized : length numbers ≡ length uses
  pub positive : 0 < number
  pub known : (user : ℕ) → Contains list user → user < length uses
  pub here : (user : ℕ) → Contains list user → slice_index numbers user ≡ number
  pub least : (user : ℕ) → HasNumber numbers user → number ≤ slice_index numbers user
  pub done : (user : ℕ) → HasNumber numbers user → Contains list user ⊎ All (HasNumber numbers) (used_by uses user)
  pub never_falls : (user used : ℕ) → Uses uses user used → HasNumber numbers user → HasNumber numbers used → slice_index numbers user ≤ slice_index numbers used
