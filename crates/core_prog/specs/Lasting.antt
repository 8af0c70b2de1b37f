-- What computations do to states: time passes, memory keeps its form, and more steps only add (this project's own).
use Rattle.std.specs.Prelude.{◌≡◌, ◌≤◌, ◌+◌, ◌++◌, ℕ, List, length}
use Rattle.core_prog.specs.Ends.{Stopped, Faulted, Cut}
use Rattle.core_prog.specs.States.{State, Ran, Went, Ended, M}
use Rattle.core_prog.specs.Runs.{Result}
use Rattle.core_prog.specs.declared.outcome.Outcome.{Outcome}
use Rattle.core_prog.specs.declared.outcome.Outcome.TheVariants as outcome

-- later in a run there are no more steps, the output has grown at its end, and the input that is left is an end of what was left
pub record Later (before now : State) : Type 0 where
  pub steps : now.left ≤ before.left
  pub added : List ℕ
  pub output : now.output ≡ before.output ++ added
  pub read : List ℕ
  pub input : before.input ≡ read ++ now.input

-- the same procedures are active, and no place is more or less
pub record Back (before now : State) : Type 0 where
  pub active : now.memory.active ≡ before.memory.active
  pub places : length now.memory.cells ≡ length before.memory.cells

abbrev pub state_of : {A : Type 0} → Ran A → State
state_of (Went a s) = s
state_of (Ended e s) = s

abbrev pub Passes : {A : Type 0} → M A → Type 0
Passes m = (s : State) → Later s (state_of (m s))

-- what goes on has its procedures and its places back
abbrev pub IsBack : {A : Type 0} → State → Ran A → Type 0
IsBack before (Went a now) = Back before now
IsBack before (Ended e now) = Unit {0}

abbrev pub Returns : {A : Type 0} → M A → Type 0
Returns m = (s : State) → IsBack s (m s)

-- the same state with so many steps more
abbrev pub with_more : ℕ → State → State
with_more k s = record s { left = s.left + k }

-- what was printed stands at the front of what is printed now, and without more steps nothing changes
pub record IsFront {A : Type 0} (k : ℕ) (before : State) (now : Ran A) : Type 0 where
  pub added : List ℕ
  pub output : (state_of now).output ≡ before.output ++ added
  pub same : k ≡ 0 → now ≡ Ended Cut before

-- with so many steps more a computation does the same with so many more left, unless it was cut for want of one
abbrev pub AddsTo : {A : Type 0} → ℕ → Ran A → Ran A → Type 0
AddsTo k (Went a s) now = now ≡ Went a (with_more k s)
AddsTo k (Ended Stopped s) now = now ≡ Ended Stopped (with_more k s)
AddsTo k (Ended (Faulted code at) s) now = now ≡ Ended (Faulted code at) (with_more k s)
AddsTo k (Ended Cut s) now = IsFront k s now

-- of a run with more steps: what was spent before has printed more, and what was over before is as it was
abbrev pub GoesOnAs : Outcome → Result → Result → Type 0
GoesOnAs outcome.Spent before now = (added : List ℕ) × (now.output ≡ before.output ++ added)
GoesOnAs outcome.Stop before now = now ≡ before
GoesOnAs (outcome.Fault code) before now = now ≡ before

abbrev pub GoesOn : Result → Result → Type 0
GoesOn before now = GoesOnAs before.outcome before now

abbrev pub IsOver : Outcome → Type 0
IsOver outcome.Spent = ⊥
IsOver outcome.Stop = Unit {0}
IsOver (outcome.Fault code) = Unit {0}
