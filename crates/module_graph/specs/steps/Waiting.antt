-- Modules that wait for one that they use, and modules that are ready, for the proofs of the code.
use Rattle.std.specs.Prelude.{ℕ, ◌<◌, ◌≡◌, ◌≢◌, ◌⊎◌, Bool, List, [], Vec, map, length, slice_index, slice_index_or, All, Contains}
use Rattle.ftn_base.specs.ModuleUses.{used_by}
use Rattle.module_graph.specs.steps.Marks.{IsEntry, IsFree, IsPlaced, IsUnmarked}
use Rattle.module_graph.specs.declared.entries.Entry.{Entry}

-- the lists of waiters, without where they lie in memory
abbrev pub waiter_lists : {A : Type 0} → List (Vec Entry A) → List (List Entry)
waiter_lists lists = map (λ list. list.items) lists

-- the waiters for this module
abbrev pub waiters_on : List (List Entry) → ℕ → List Entry
waiters_on waits used = slice_index_or waits used []

-- an entry before which all are marked, and which is the module that it waits for
pub record IsWaiter (uses : List (List ℕ)) (marks : List Bool) (used : ℕ) (waiter : Entry) : Type 0 where
  pub woken : IsEntry uses marks waiter
  pub within : waiter.at < length (used_by uses waiter.user)
  pub entry : slice_index (used_by uses waiter.user) waiter.at ≡ used

-- the module waits for one without a mark
pub record IsWaiting (marks : List Bool) (waits : List (List Entry)) (number : ℕ) : Type 0 where
  pub used : ℕ
  pub waiter : Entry
  pub no_mark : IsUnmarked marks used
  pub among : Contains (waiters_on waits used) waiter
  pub same : waiter.user ≡ number

abbrev pub IsCovered : List Bool → List (List Entry) → List ℕ → ℕ → Type 0
IsCovered marks waits ready number = Contains ready number ⊎ IsWaiting marks waits number

-- what is ready is free, and what waits does so for what it uses
pub record IsSound (uses : List (List ℕ)) (marks : List Bool) (waits : List (List Entry)) (ready : List ℕ) : Type 0 where
  pub free : (number : ℕ) → Contains ready number → IsFree uses marks number
  pub waiters : (used : ℕ) → All (IsWaiter uses marks used) (waiters_on waits used)

-- each module without a mark is ready or waits
abbrev pub AreCovered : List (List ℕ) → List Bool → List (List Entry) → List ℕ → Type 0
AreCovered uses marks waits ready = (number : ℕ) → number < length uses → IsUnmarked marks number → IsCovered marks waits ready number

-- modules are placed one after another
pub record IsGoing (uses : List (List ℕ)) (list : List ℕ) (marks : List Bool) (waits : List (List Entry)) (ready : List ℕ) : Type 0 where
  pub placed : IsPlaced uses list marks
  pub sound : IsSound uses marks waits ready
  pub covered : AreCovered uses marks waits ready
  pub sized : length waits ≡ length uses

-- from one state of waiting and ready modules to another, by which a module is covered too
pub record IsSettled (uses : List (List ℕ)) (marks : List Bool) (waits : List (List Entry)) (ready : List ℕ) (new_waits : List (List Entry)) (new_ready : List ℕ) (user : ℕ) : Type 0 where
  pub sound : IsSound uses marks new_waits new_ready
  pub kept : (number : ℕ) → IsCovered marks waits ready number → IsCovered marks new_waits new_ready number
  pub here : IsUnmarked marks user → IsCovered marks new_waits new_ready user

-- a free module was taken from those that are ready
pub record IsTaken (uses : List (List ℕ)) (marks : List Bool) (waits : List (List Entry)) (ready : List ℕ) (number : ℕ) : Type 0 where
  pub known : number < length uses
  pub sound : IsSound uses marks waits ready
  pub taken : (other : ℕ) → Contains ready other → other ≢ number
  pub others : (other : ℕ) → other < length uses → IsUnmarked marks other → other ≢ number → IsCovered marks waits ready other
