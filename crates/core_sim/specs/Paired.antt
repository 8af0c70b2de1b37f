-- States of two programs that hold the same by a pairing (this project's own).
use Rattle.std.specs.Prelude.{◌≡◌, ◌≤◌, ◌⊎◌, ℕ, ◌+◌, ◌-◌, ◌*◌, Bool, true, false, List, [], ◌∷◌, length, slice_get, not, Some}
use Rattle.std.specs.Option.{option_map_or}
use Rattle.ftn_tree.specs.Sorts.{Text, is_sort, sort_of_type}
use Rattle.core_prog.specs.declared.storage.Variable.{Variable}
use Rattle.core_prog.specs.Sorts.{is_scalar}
use Rattle.core_prog.specs.Memory.{Holding, Frame, Memory}
use Rattle.core_prog.specs.Programs.{Program, Procedure}
use Rattle.core_prog.specs.States.{State}
use Rattle.core_sim.specs.Pairings.{Pairing}
use Rattle.core_sim.specs.Units.{units_in, SameUnit}

-- a variable without dimensions
abbrev pub is_scalar_at : Program → ℕ → Bool
is_scalar_at program number = option_map_or is_scalar (slice_get program.variables number) false

-- the units of a variable are of its type; an integer or a logical takes one (12.4.1.1, 14.6.3.1)
pub record IsTyped (program : Program) (number : ℕ) (h : Holding) : Type 0 where
  pub variable : Variable
  pub declared : slice_get program.variables number ≡ Some variable
  pub ty : h.ty ≡ variable.ty
  pub unit : not (is_sort Text (Some (sort_of_type variable.ty))) ≡ true → h.unit ≡ 1

module _ (program : Program) where
  abbrev pub AreTyped : List ℕ → List Holding → Type 0
  AreTyped (number ∷ numbers) (h ∷ hs) = IsTyped program number h × AreTyped numbers hs
  AreTyped numbers hs = Unit {0}

  -- the units of all dummy arguments of active procedures are of their types
  abbrev pub HasTypes : List Frame → Type 0
  HasTypes [] = Unit {0}
  HasTypes (frame ∷ frames) = ((proc : Procedure) → slice_get program.procedures frame.procedure ≡ Some proc → AreTyped proc.dummies frame.held) × HasTypes frames

module _ (pairing : Pairing) (old new : Program) where
  -- two places are one: the same unit of partners, or the same of the places that arguments were given
  abbrev pub Meets : ℕ → ℕ → Type 0
  Meets at at' = SameUnit pairing old new at at' ⊎ ((n : ℕ) × (at ≡ units_in old + n) × (at' ≡ units_in new + n))

  -- so many places from there on are one, the first one in any case
  abbrev pub Near : ℕ → ℕ → ℕ → Type 0
  Near n first first' = (k : ℕ) → k ≤ n - 1 → Meets (first + k) (first' + k)

  -- a variable is held by places that are one, with one type, length and bounds; a scalar is one element
  pub record Holds (number : ℕ) (h h' : Holding) : Type 0 where
    pub same : h' ≡ record h { first = h'.first }
    pub near : Near (h.count * h.unit) h.first h'.first
    pub one : is_scalar_at old number ≡ true → h.count ≡ 1

  -- dummy arguments in their order
  abbrev pub Held : List ℕ → List Holding → List Holding → Type 0
  Held [] hs hs' = Unit {0}
  Held (number ∷ numbers) [] [] = Unit {0}
  Held (number ∷ numbers) (h ∷ hs) (h' ∷ hs') = Holds number h h' × Held numbers hs hs'
  Held (number ∷ numbers) hs hs' = ⊥

  pub record SameFrame (frame frame' : Frame) : Type 0 where
    pub procedure : Procedure
    pub there : slice_get old.procedures frame.procedure ≡ Some procedure
    pub paired : pairing.procedure frame.procedure ≡ Some frame'.procedure
    pub held : Held procedure.dummies frame.held frame'.held

  -- active procedures in their order
  abbrev pub SameFrames : List Frame → List Frame → Type 0
  SameFrames [] [] = Unit {0}
  SameFrames (frame ∷ frames) (frame' ∷ frames') = SameFrame frame frame' × SameFrames frames frames'
  SameFrames frames frames' = ⊥

  -- the number is that of the places that arguments were given
  pub record PairedMemory (height : ℕ) (memory memory' : Memory) : Type 0 where
    pub places : length memory.cells ≡ units_in old + height
    pub places_new : length memory'.cells ≡ units_in new + height
    pub contents : (at at' : ℕ) → Meets at at' → slice_get memory.cells at ≡ slice_get memory'.cells at'
    pub active : SameFrames memory.active memory'.active

  pub record Paired (height : ℕ) (s s' : State) : Type 0 where
    pub memory : PairedMemory height s.memory s'.memory
    pub typed : HasTypes old s.memory.active
    pub input : s.input ≡ s'.input
    pub output : s.output ≡ s'.output
