use Rattle.std.proofs.Common.{◌<◌, ℕ}
use Rattle.module_graph.specs.Uses.{used_lists}
use Rattle.module_graph.specs.steps.Waiting.{IsCovered, IsSound, waiter_lists}
use Rattle.module_graph.proofs.waiting.settle_all.Given as goal

abbrev pub invariant-loop-user : goal.invariant-loop-user
invariant-loop-user l = record {
  sound : IsSound (used_lists l.uses) l.marks (waiter_lists l.waiting) l.ready.keys;
  covered : (number : ℕ) → number < l.user → IsCovered l.marks (waiter_lists l.waiting) l.ready.keys number;
}
