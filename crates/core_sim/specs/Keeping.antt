-- Computations of two programs that do the same, whatever steps either has (this project's own).
use Rattle.std.specs.Prelude.{◌+◌, ◌≡◌, ◌≤◌, ◌⊎◌, ℕ, ◌*◌, List, ◌++◌}
use Rattle.core_prog.specs.Ends.{End, Faulted, Cut, outcome_of}
use Rattle.core_prog.specs.Lasting.{GoesOn}
use Rattle.core_prog.specs.Programs.{Program}
use Rattle.ftn_tree.specs.declared.value.Value.{Value}
use Rattle.core_prog.specs.Actions.{Block}
use Rattle.core_prog.specs.Terms.{Term}
use Rattle.core_prog.specs.Values.{value_of}
use Rattle.core_prog.specs.Statements.{block}
use Rattle.core_prog.specs.Runs.{bodies, run}
use Rattle.core_prog.specs.States.{State, Ran, Went, Ended, M, Way}
use Rattle.core_sim.specs.Pairings.{Pairing}
use Rattle.core_sim.specs.Paired.{Paired}

-- what two computations have of steps: how many are left to each; whether the old one may be cut where the new one isn't, and the other way; and
-- whether they may leave states that aren't paired at a fault
pub record Budget : Type 1 where
  pub Left : ℕ → ℕ → Type 0
  pub MayCutOld : Type 0
  pub MayCutNew : Type 0
  pub MayLose : Type 0

-- the same number
abbrev pub equal_steps : Budget
equal_steps = record { Left = λ n n'. n ≡ n'; MayCutOld = ⊥; MayCutNew = ⊥; MayLose = ⊥ }

-- the new one has so many for each of the old one, and some to spare
abbrev pub so_many : Type 0 → ℕ → ℕ → Budget
so_many lose factor spare = record { Left = λ n n'. factor * n + spare ≤ n'; MayCutOld = Unit {0}; MayCutNew = ⊥; MayLose = lose }

-- the new one has no more than the old one
abbrev pub no_more : Type 0 → Budget
no_more lose = record { Left = λ n n'. n' ≤ n; MayCutOld = ⊥; MayCutNew = Unit {0}; MayLose = lose }

abbrev pub IsFault : End → Type 0
IsFault (Faulted code at) = Unit {0}
IsFault e = ⊥

abbrev pub IsFront : List ℕ → List ℕ → Type 0
IsFront front whole = (rest : List ℕ) × (whole ≡ front ++ rest)

-- it was cut, and what it printed is the front of what the other one printed
pub record Lags (may : Type 0) (e : End) (s other : State) : Type 0 where
  pub may_be : may
  pub cut : e ≡ Cut
  pub front : IsFront s.output other.output

module _ (pairing : Pairing) (old new : Program) (budget : Budget) where
  -- both went on alike
  pub record GoesAlike (height : ℕ) (s s' : State) : Type 0 where
    pub paired : Paired pairing old new height s s'
    pub left : budget.Left s.left s'.left

  -- both ended alike
  pub record EndsAlike (e e' : End) (s s' : State) : Type 0 where
    pub outcome : outcome_of e ≡ outcome_of e'
    pub output : s.output ≡ s'.output
    pub input : s.input ≡ s'.input
    pub paired : (budget.MayLose × IsFault e) ⊎ ((height : ℕ) × GoesAlike height s s')

  -- both went on with related values or ended alike, or one was cut that may be
  abbrev pub Alike : ℕ → {A B : Type 0} → (A → B → Type 0) → Ran A → Ran B → Type 0
  Alike height Same (Went a s) (Went b s') = Same a b × GoesAlike height s s'
  Alike height Same (Went a s) (Ended e' s') = Lags budget.MayCutNew e' s' s
  Alike height Same (Ended e s) (Went b s') = Lags budget.MayCutOld e s s'
  Alike height Same (Ended e s) (Ended e' s') = EndsAlike e e' s s' ⊎ Lags budget.MayCutOld e s s' ⊎ Lags budget.MayCutNew e' s' s

  -- from paired states with such steps, for each number of places that arguments were given
  abbrev pub Keeps : {A B : Type 0} → (A → B → Type 0) → M A → M B → Type 0
  Keeps Same m m' = (height : ℕ) (s s' : State) → Paired pairing old new height s s' → budget.Left s.left s'.left → Alike height Same (m s) (m' s')

-- where both went on, the new one took at least as many steps as the old one and at most so many for each
abbrev pub Costs : {A B : Type 0} → ℕ → State → State → Ran A → Ran B → Type 0
Costs factor s s' (Went a t) (Went b t') = (s.left + t'.left ≤ s'.left + t.left) × (s'.left + factor * t.left ≤ factor * s.left + t'.left)
Costs factor s s' r r' = Unit {0}

-- with so many steps for each the new computation does what the old one does, and the old one with as many does what the new one does
pub record KeepsWithin (pairing : Pairing) (old new : Program) (lose : Type 0) (factor : ℕ) {A B : Type 0} (Same : A → B → Type 0) (m : M A) (m' : M B) : Type 0 where
  pub forth : Keeps pairing old new (so_many lose factor 0) Same m m'
  pub back : Keeps pairing old new (no_more lose) Same m m'
  pub steps : (height : ℕ) (s s' : State) → Paired pairing old new height s s' → Costs factor s s' (m s) (m' s')

-- what statements do and expressions give in a run: the number by which bodies of procedures are defined is that of the steps left
abbrev pub does_in : Program → Block → M Way
does_in program b = λ s. block program (bodies program s.left) b s

abbrev pub gives_in : Program → Term → M Value
gives_in program t = λ s. value_of program (bodies program s.left) t s

-- for every input and number of steps, one program does within so many times the steps what the other does, and the other way round
abbrev pub AlikeWithin : ℕ → Program → Program → Type 0
AlikeWithin factor old new =
    (input : List ℕ) (n : ℕ) → GoesOn (run old input n) (run new input (factor * n)) × GoesOn (run new input n) (run old input (factor * n))
