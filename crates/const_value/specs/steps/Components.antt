-- Numbers that lead to one another, and an order in which each comes after those that it leads to. It serves the proof alone.
use Rattle.std.specs.Prelude.{◌≡◌, ◌≢◌, ℕ, ◌<◌, ◌==◌, ◌⊎◌, true, if◌then◌else◌, List, [], ◌∷◌, ◌++◌, length, All, Contains}
use Rattle.ftn_base.specs.ModuleUses.{Uses}
use Rattle.ftn_tree.specs.NameFaults.{leads}

-- uses lead from one number to the other, or it is the same
pub record Leads (uses : List (List ℕ)) (first last : ℕ) : Type 0 where
  pub count : ℕ
  pub is : leads uses count first last ≡ true

-- those before that number
abbrev pub up_to : ℕ → List ℕ → List ℕ
up_to y [] = []
up_to y (z ∷ zs) = if z == y then [] else z ∷ up_to y zs

-- each that a number uses is before it, or leads to it and to all that come between
abbrev pub IsHeld : List (List ℕ) → List ℕ → List ℕ → Type 0
IsHeld uses before [] = Unit {0}
IsHeld uses before (x ∷ rest) =
    ((y : ℕ) → Uses uses x y → Contains (before ++ x ∷ []) y ⊎ All (Leads uses y) (x ∷ up_to y rest)) × IsHeld uses (before ++ x ∷ []) rest

-- no number twice
abbrev pub AreApart : List ℕ → Type 0
AreApart [] = Unit {0}
AreApart (x ∷ rest) = All (λ y. x ≢ y) rest × AreApart rest

pub record IsFinishOrder (uses : List (List ℕ)) (order : List ℕ) : Type 0 where
  pub known : All (λ number. number < length uses) order
  pub all : (number : ℕ) → number < length uses → Contains order number
  pub apart : AreApart order
  pub held : IsHeld uses [] order
