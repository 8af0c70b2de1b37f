-- The calls at which a store in memory fails.
use Rattle.std.specs.Prelude.{ℕ, ◌==◌, nat_le, Bool, true, false, List, [], ◌∷◌, Option, Some, None, if◌then◌else◌}
use Rattle.std.specs.Option.{option_or}
use Rattle.store_io.specs.Counts.{next_count}
use Rattle.store_io.specs.declared.store_calls.FailAt.{FailAt}

-- the first entry for that call
abbrev pub entry_of : List FailAt → ℕ → Option FailAt
entry_of [] call = None
entry_of (entry ∷ entries) call = if entry.call == call then Some entry else entry_of entries call

-- a call from this number on fails, without its change
abbrev pub later_failure : Option ℕ → ℕ → Option FailAt
later_failure None call = None
later_failure (Some first) call = if nat_le first call then Some (record { call = call; done = false }) else None

-- how the call of that number fails, if it does: by the first entry for it, else by the number from which on all calls fail
abbrev pub failure_at : List FailAt → Option ℕ → ℕ → Option FailAt
failure_at fails from call = option_or (entry_of fails call) (later_failure from call)

-- how a read or a removal of a file with that text fails, if it does: that a file is absent is answered at each call
abbrev pub read_failure : Option (List ℕ) → Option FailAt → Option FailAt
read_failure None failure = None
read_failure (Some text) failure = failure

-- whether a call that fails so, if it does, makes its change
abbrev pub makes_change : Option FailAt → Bool
makes_change None = true
makes_change (Some failure) = failure.done

-- the count of faults after a call that fails so, if it does
abbrev pub faults_after : Option FailAt → ℕ → ℕ
faults_after None before = before
faults_after (Some failure) before = next_count before
