-- Answers that devices force.
use Rattle.ftn_base.specs.declared.status.Status.{Status}
use Rattle.ftn_base.specs.declared.status.Status.TheVariants as status
use Rattle.ftn_tool.specs.Seen.{Seen, HasRisen}

-- an answer that a device may force in place of the due one; want of memory is free
abbrev pub Forced : Seen → Status → Type 0
Forced seen status.StoreFault = HasRisen seen.store
Forced seen status.OutputFault = HasRisen seen.sink
Forced seen status.NoMemory = Unit {0}
Forced seen other = ⊥
