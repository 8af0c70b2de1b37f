-- Marks on modules, and the state of the search for a cycle, for the proofs of the code.
use Rattle.std.specs.Prelude.{ℕ, suc, ◌+◌, ◌*◌, ◌<◌, ◌≡◌, ◌≢◌, ◌⊎◌, Bool, true, false, not, List, length, take, slice_index, slice_index_or, count_by, All, AllPairs, Contains}
use Rattle.ftn_base.specs.ModuleUses.{Uses, used_by}
use Rattle.ftn_base.specs.ModuleOrders.{IsGreedy, IsReady}
use Rattle.ftn_base.specs.ModuleCycles.{IsRing}
use Rattle.module_graph.specs.declared.entries.Entry.{Entry}

abbrev pub IsMarked : List Bool → ℕ → Type 0
IsMarked marks number = slice_index_or marks number false ≡ true

abbrev pub IsUnmarked : List Bool → ℕ → Type 0
IsUnmarked marks number = slice_index_or marks number false ≡ false

-- an entry of the list of a module's uses, before which all are marked
pub record IsEntry (uses : List (List ℕ)) (marks : List Bool) (entry : Entry) : Type 0 where
  pub known : entry.user < length uses
  pub front : All (IsMarked marks) (take entry.at (used_by uses entry.user))

-- the entries of the list so far are the marked modules
pub record IsPlaced (uses : List (List ℕ)) (list : List ℕ) (marks : List Bool) : Type 0 where
  pub greedy : IsGreedy uses list
  pub sized : length marks ≡ length uses
  pub listed : (number : ℕ) → IsMarked marks number → Contains list number
  pub marked : (number : ℕ) → Contains list number → IsMarked marks number

-- so, and no module is ready
pub record IsStuck (uses : List (List ℕ)) (list : List ℕ) (marks : List Bool) : Type 0 where
  pub placed : IsPlaced uses list marks
  pub stuck : (number : ℕ) → IsReady uses list number → ⊥

-- a search from a module: the path to the module reached last, and marks on all that were reached on the way
pub record IsSearch (uses : List (List ℕ)) (from : ℕ) (marks : List Bool) (path : List ℕ) : Type 0 where
  pub sized : length marks ≡ length uses
  pub open_source : IsUnmarked marks from
  pub source : 0 < length path → slice_index path 0 ≡ from
  pub known : All (λ number. number < length uses) path
  pub joins : (k : ℕ) → suc k < length path → Uses uses (slice_index path k) (slice_index path (suc k))
  pub passed : (k : ℕ) → 0 < k → k < length path → IsMarked marks (slice_index path k)
  pub once : AllPairs (λ earlier later. earlier ≢ later) path
  pub shut : (number : ℕ) → (number ≡ from) ⊎ IsMarked marks number → Contains path number ⊎ All (IsMarked marks) (used_by uses number)

-- the path is a cycle from that module
pub record IsWayBack (uses : List (List ℕ)) (from : ℕ) (path : List ℕ) : Type 0 where
  pub ring : IsRing uses path
  pub once : AllPairs (λ earlier later. earlier ≢ later) path
  pub source : slice_index path 0 ≡ from

abbrev pub unmarked : List Bool → ℕ
unmarked marks = count_by not marks

-- what falls at each step of a walk
abbrev pub to_do : {A : Type 0} → List Bool → List A → ℕ
to_do marks path = 2 * unmarked marks + length path

-- a module without a mark while all that it uses have one
pub record IsFree (uses : List (List ℕ)) (marks : List Bool) (number : ℕ) : Type 0 where
  pub known : number < length uses
  pub absent : IsUnmarked marks number
  pub served : All (IsMarked marks) (used_by uses number)
