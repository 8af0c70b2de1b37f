-- What code answers where a definition may end a run (this project's own). Want of memory may come at any time.
use Rattle.std.specs.Prelude.{◌≡◌, Result, Ok, Err}
use Rattle.core_prog.specs.Ends.{End}
use Rattle.core_prog.specs.Ends as ends
use Rattle.ftn_interp.specs.declared.halt.Halt.{Halt}
use Rattle.ftn_interp.specs.declared.halt.Halt.TheVariants.{Faulted, Cut, NoMemory}

-- just what is due
abbrev pub Makes : {A : Type 0} → Result A End → Result A Halt → Type 0
Makes due (Ok a) = due ≡ Ok a
Makes due (Err (Faulted code at)) = due ≡ Err (ends.Faulted code at)
Makes due (Err Cut) = due ≡ Err ends.Cut
Makes due (Err NoMemory) = Unit {0}
