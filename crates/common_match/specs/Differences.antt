-- The first position at which two lists of shapes differ.
use Rattle.std.specs.Prelude.{ℕ, ◌<◌, ◌≡◌, ◌≢◌, List, slice_get}
use Rattle.ftn_base.specs.declared.entity.Shape.{Shape}

-- the shapes there differ, or one list has none there; before it, the lists are alike
pub record IsFirstDifference (a b : List Shape) (at : ℕ) : Type 0 where
  pub differs : slice_get a at ≢ slice_get b at
  pub alike : (before : ℕ) → before < at → slice_get a before ≡ slice_get b before
