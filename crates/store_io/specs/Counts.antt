-- Counts that never fall. A count stands still at the end of its type.
use Rattle.std.specs.Prelude.{ℕ, Bool, ◌+◌, ◌-◌, ◌^◌, ◌≤◌, ◌==◌, min, List}
use Rattle.std.specs.List.{list_any}

-- the count after one more
abbrev pub next_count : ℕ → ℕ
next_count before = min (before + 1) (2 ^ 64 - 1)

-- a count rose, or stood at its end
abbrev pub Rose : ℕ → ℕ → Type 0
Rose before now = min (before + 1) (2 ^ 64 - 1) ≤ now

-- whether the call of that number is one of those listed
abbrev pub is_listed : List ℕ → ℕ → Bool
is_listed fails call = list_any (λ fail. fail == call) fails
