-- The units of a file hold each of its statements once.
use Rattle.std.specs.Prelude.{◌≡◌, ℕ, ◌<◌, ◌≤◌, ◌==◌, Bool, List, [], length, count_by}
use Rattle.std.specs.List.{flat_map}
use Rattle.ftn_tree.specs.declared.mark.Mark.{Mark}
use Rattle.ftn_tree.specs.declared.unit.Unit.{Unit as UnitTree}
use Rattle.ftn_tree.specs.Nesting.{Nested}
use Rattle.ftn_tree.specs.Around.{numbers_of, units_around}

-- how often the units hold the statement with that number
abbrev pub times_held : ℕ → List UnitTree → ℕ
times_held k units = count_by (λ number. number == k) (flat_map numbers_of units)

pub record AreTiled (marks : List Mark) (units : List UnitTree) : Type 0 where
  pub once : (k : ℕ) → k < length marks → times_held k units ≡ 1
  pub no_other : (k : ℕ) → length marks ≤ k → times_held k units ≡ 0
  pub around : (k : ℕ) → k < length marks → units_around units k ≡ [] → ⊥

-- whatever names are the same
abbrev pub UnitsTile : Type 0
UnitsTile = (same : ℕ → ℕ → Bool) (marks : List Mark) (units : List UnitTree) → Nested same marks units → AreTiled marks units
