use Rattle.std.proofs.Common.{ℕ, All, take}
use Rattle.module_graph.specs.Uses.{used_lists}
use Rattle.module_graph.specs.steps.Marks.{IsUnmarked}
use Rattle.module_graph.specs.steps.Waiting.{IsCovered, IsSound, waiter_lists}
use Rattle.module_graph.proofs.waiting.wake.Given as goal

abbrev pub invariant-loop-waiter : goal.invariant-loop-waiter
invariant-loop-waiter l = record {
  sound : IsSound (used_lists l.uses) l.marks (waiter_lists l.waiting) l.ready.keys;
  kept : (number : ℕ) → IsCovered l.marks (waiter_lists l.initial.waiting) l.initial.ready.keys number → IsCovered l.marks (waiter_lists l.waiting) l.ready.keys number;
  here : All (λ waiter. IsUnmarked l.marks waiter.user → IsCovered l.marks (waiter_lists l.waiting) l.ready.keys waiter.user) (take l.waiter-index l.woken);
}
