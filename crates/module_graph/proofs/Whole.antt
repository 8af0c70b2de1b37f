-- Where each module has a mark, the list is an order, and no module lies on a cycle.
use Rattle.std.proofs.Common.{◌≡◌, ℕ, ◌<◌, Bool, true, false, List, length, All, sym, subst}
use Rattle.ftn_base.specs.ModuleCycles.{IsOnCycle}
use Rattle.ftn_base.specs.ModuleOrders.{IsOrder}
use Rattle.module_graph.specs.steps.Marks.{IsMarked, IsStuck}
use Rattle.module_graph.proofs.Chains.{on_cycle_known, on_no_cycle}

module _ (uses : List (List ℕ)) (list : List ℕ) (marks : List Bool) (stuck : IsStuck uses list marks) (all : All (λ mark. mark ≡ true) marks) where
  marked : (number : ℕ) → number < length uses → IsMarked marks number
  marked number lt = all number false (subst (λ (n : ℕ). number < n) (sym stuck.placed.sized) lt)

  pub whole_order : IsOrder uses list
  whole_order = record { each = stuck.placed.greedy; all = λ number lt. stuck.placed.listed number (marked number lt) }

  pub whole_on_no_cycle : (number : ℕ) → IsOnCycle uses number → ⊥
  whole_on_no_cycle number cycle = on_no_cycle uses list stuck.placed.greedy number (stuck.placed.listed number (marked number (on_cycle_known uses number cycle))) cycle
