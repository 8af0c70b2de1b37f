-- What code answers where a definition may have no value (this project's own). Want of memory may come at any time.
use Rattle.std.specs.Prelude.{◌≡◌, Result, Ok, Err}
use Rattle.ftn_tree.specs.declared.intrinsic.ValueFault.{ValueFault}
use Rattle.value_ops.specs.declared.failure.Failure.{Failure}
use Rattle.value_ops.specs.declared.failure.Failure.TheVariants.{Fault, NoMemory}

-- just what is due
abbrev pub Makes : {A : Type 0} → Result A ValueFault → Result A Failure → Type 0
Makes due (Ok a) = due ≡ Ok a
Makes due (Err (Fault fault)) = due ≡ Err fault
Makes due (Err NoMemory) = Unit {0}
