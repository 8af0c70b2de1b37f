-- Counts of elements and values as 64 bits hold them. It serves the proof alone.
use Rattle.std.specs.Prelude.{ℕ, ◌-◌, ◌^◌, min, ℤ, ◌-ℤ◌, Option, Some}
use Rattle.ftn_tree.specs.Arrays.{axis_from, from_low, next_axis, span}

-- a greater number counts as the greatest one
abbrev pub limited : ℕ → ℕ
limited n = min n (2 ^ 64 - 1)

-- the place of an element by its subscript in the first dimension and its place in the others
abbrev pub next_from : ℤ × ℤ → ℤ → Option ℕ → Option ℕ
next_from pair subscript rest = next_axis (axis_from pair) (from_low (Some (span pair.0 pair.1)) (subscript -ℤ pair.0)) rest
