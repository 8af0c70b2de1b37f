use Rattle.std.proofs.Common.{ℕ, ◌<◌}
use Rattle.ftn_base.specs.ModuleCycles.{IsOnCycle}
use Rattle.module_graph.specs.Uses.{used_lists}
use Rattle.module_graph.proofs.search.least_cycle.Given as goal

abbrev pub invariant-loop-from : goal.invariant-loop-from
invariant-loop-from l = (number : ℕ) → number < l.from → IsOnCycle (used_lists l.uses) number → ⊥
