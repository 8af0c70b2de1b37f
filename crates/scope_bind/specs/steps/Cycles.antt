-- Modules that use each module, and from which of them uses lead to one, for the proofs of the code.
use Rattle.std.specs.Prelude.{ℕ, ◌<◌, ◌≡◌, ◌⊎◌, true, Bool, List, length, All, Contains}
use Rattle.ftn_base.specs.ModuleCycles.{IsOnCycle}
use Rattle.ftn_base.specs.ModuleOrders.{IsOrder}
use Rattle.ftn_base.specs.ModuleUses.{Uses, used_by}
use Rattle.module_graph.specs.steps.Marks.{IsMarked}
use Rattle.scope_bind.specs.declared.cycles.Ordered.{Ordered}
use Rattle.scope_bind.specs.declared.cycles.Ordered.TheVariants as ordered
use Rattle.ftn_tree.specs.NameFaults.{leads}

-- the user was put on the list of each of these modules, and nothing else was
pub record AreAdded (list : List ℕ) (user : ℕ) (before after : List (List ℕ)) : Type 0 where
  pub kept : (used other : ℕ) → Uses before used other → Uses after used other
  pub here : All (λ used. Uses after used user) list
  pub only : (used other : ℕ) → Uses after used other → Uses before used other ⊎ ((other ≡ user) × Contains list used)

-- for each module, those that use it
pub record AreUsers (uses users : List (List ℕ)) : Type 0 where
  pub sized : length users ≡ length uses
  pub all : (user used : ℕ) → Uses uses user used → Uses users used user
  pub only : (user used : ℕ) → Uses users used user → Uses uses user used

-- these modules were marked, and those of them that had no mark were stacked
pub record AreMarked (list : List ℕ) (marks : List Bool) (stack : List ℕ) (new_marks : List Bool) (new_stack : List ℕ) : Type 0 where
  pub sized : length new_marks ≡ length marks
  pub here : All (IsMarked new_marks) list
  pub marks_kept : (number : ℕ) → IsMarked marks number → IsMarked new_marks number
  pub stack_kept : (number : ℕ) → Contains stack number → Contains new_stack number
  pub marked : (number : ℕ) → IsMarked new_marks number → IsMarked marks number ⊎ (Contains list number × Contains new_stack number)
  pub stacked : (number : ℕ) → Contains new_stack number → Contains stack number ⊎ Contains list number

-- uses lead from the marked modules to that one; those of the list may be used by some without a mark
pub record IsLeading (uses users : List (List ℕ)) (target : ℕ) (marks : List Bool) (stack : List ℕ) : Type 0 where
  pub sized : length marks ≡ length uses
  pub target_marked : IsMarked marks target
  pub known : (number : ℕ) → Contains stack number → number < length uses
  pub stack_marked : (number : ℕ) → Contains stack number → IsMarked marks number
  pub sound : (first : ℕ) → IsMarked marks first → (count : ℕ) × (leads uses count first target ≡ true)
  pub done : (used : ℕ) → IsMarked marks used → Contains stack used ⊎ All (IsMarked marks) (used_by users used)

-- the least module that lies on a cycle
pub record IsLeastOn (uses : List (List ℕ)) (number : ℕ) : Type 0 where
  pub within : number < length uses
  pub on : IsOnCycle uses number
  pub least : (lesser : ℕ) → lesser < number → IsOnCycle uses lesser → ⊥

-- an order, and no cycle
pub record IsSound (uses : List (List ℕ)) (list : List ℕ) : Type 0 where
  pub order : IsOrder uses list
  pub none : (number : ℕ) → IsOnCycle uses number → ⊥

abbrev pub IsOrdered : List (List ℕ) → Ordered → Type 0
IsOrdered uses (ordered.Order list) = IsSound uses list.items
IsOrdered uses (ordered.Cycle number) = IsLeastOn uses number
