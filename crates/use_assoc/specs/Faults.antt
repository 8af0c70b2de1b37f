-- Which item is told.
use Rattle.std.specs.Prelude.{◌≡◌, ⊤, ℕ, Option, Some}
use Rattle.use_assoc.specs.declared.fault.UseFault.{UseFault}
use Rattle.use_assoc.specs.declared.fault.UseFault.TheVariants as faults

-- a fault names that first item, or memory was wanting
abbrev pub IsFault : UseFault → Option (ℕ × ℕ) → Type 0
IsFault (faults.NotPublic list item) first = first ≡ Some (list, item)
IsFault faults.NoMemory first = ⊤
