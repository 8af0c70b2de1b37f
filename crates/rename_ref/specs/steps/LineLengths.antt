-- Lines that are too long, by a table of the lengths of lines.
use Rattle.std.specs.Prelude.{ℕ, Bool, ◌+◌, ◌-◌, nat_lt, List, [], ◌∷◌, unwrap_or, slice_get, if◌then◌else◌}
use Rattle.ftn_base.specs.Limits.{line_limit}

-- the line has more than 132 bytes and its LF, the lines counted from 1
abbrev pub is_long_in : List ℕ → ℕ → Bool
is_long_in lengths line = nat_lt (line_limit + 1) (unwrap_or (slice_get lengths (line - 1)) 0)

-- the length of a last line that lacks its LF, if it has bytes
abbrev pub last_length : ℕ → List ℕ
last_length n = if nat_lt 0 n then n ∷ [] else []
