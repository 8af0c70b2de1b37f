-- What a call of a procedure does whose body is one assignment TO = FROM of scalars (Fortran 90, 7.5.1, 12.4; this project's own).
use Rattle.std.specs.Prelude.{◌≡◌, ◌<◌, ◌⊎◌, ℕ, ◌+◌, ◌-◌, ◌*◌, List, length, Option, Ok}
use Rattle.ftn_tree.specs.declared.value.Value.{Value}
use Rattle.core_prog.specs.declared.site.Site.{Site}
use Rattle.core_prog.specs.Ends.{End, Cut}
use Rattle.core_prog.specs.Memory.{Memory, Place, Holding, read_at, with_value}
use Rattle.core_prog.specs.Programs.{Program, Procedure}
use Rattle.core_prog.specs.Holdings.{holding, procedure}
use Rattle.core_prog.specs.Entries.{Argument, not_active, entered, left, result_at}
use Rattle.core_prog.specs.States.{State, Ran, Went, Ended, M}
use Rattle.core_sim.specs.Swaps.{copying}

-- nothing is printed, and no input is taken
pub record Quiet (s t : State) : Type 0 where
  pub input : t.input ≡ s.input
  pub output : t.output ≡ s.output

-- it went on after so many steps, or was cut since there were fewer, or ended in a way that is told
abbrev pub Outcome : {A : Type 0} → ℕ → (A → Memory → Type 0) → (End → Type 0) → State → Ran A → Type 0
Outcome k post bad s (Went a t) = post a t.memory × (t.left + k ≡ s.left) × Quiet s t
Outcome k post bad s (Ended e t) = (((e ≡ Cut) × (s.left < k)) ⊎ bad e) × Quiet s t

-- so it is from each state with such a memory
abbrev pub Does : {A : Type 0} → ℕ → (Memory → Type 0) → M A → (A → Memory → Type 0) → (End → Type 0) → Type 0
Does k pre m post bad = (s : State) → pre s.memory → Outcome k post bad s (m s)

abbrev pub Is : Memory → Memory → Type 0
Is m0 m = m ≡ m0

-- all of a scalar
abbrev pub whole_of : Holding → Place
whole_of h = record { ty = h.ty; first = h.first + 0 * h.unit + 0; units = h.unit; unit = h.unit; behind = (h.count - 0) * h.unit }

-- a procedure with that one statement
abbrev pub made : List ℕ → Option ℕ → Site → ℕ → Site → ℕ → Procedure
made dummies result at to at' from = record { dummies = dummies; result = result; body = copying at to at' from }

-- what its call gives, which is told of the value that was copied, and leaves
abbrev pub Got : Site → Holding → Holding → Memory → Memory → (Value → Option Value) → Option Value → Memory → Type 0
Got at h g m0 m1 result r m = (v : Value) × (read_at at (whole_of g) m1 ≡ Ok v) × (r ≡ result v) × (m ≡ left (length m0.cells) (with_value (whole_of h) v m1))

-- a call that comes to its statement, with memory as it is before it and in it
pub record IsCopyCall (program : Program) (at : Site) (number : ℕ) (args : List Argument) (m0 m1 : Memory) : Type 0 where
  pub dummies : List ℕ
  pub result : Option ℕ
  pub to_at : Site
  pub to : ℕ
  pub from_at : Site
  pub from : ℕ
  pub there : procedure program number ≡ Ok (made dummies result to_at to from_at from)
  pub free : not_active at number m0 ≡ Ok tt
  pub enters : entered program at number dummies args m0 ≡ Ok m1

-- where its two scalars are, and what its result is
pub record AreHeld (program : Program) (at : Site) (number : ℕ) (args : List Argument) (m0 m1 : Memory) (c : IsCopyCall program at number args m0 m1) : Type 0 where
  pub target : Holding
  pub source : Holding
  pub target_held : holding program c.to m1 ≡ Ok target
  pub source_held : holding program c.from m1 ≡ Ok source
  pub given : Value → Option Value
  pub gives : (v : Value) → read_at c.from_at (whole_of source) m1 ≡ Ok v → result_at program at c.result (with_value (whole_of target) v m1) ≡ Ok (given v)
