use Rattle.std.proofs.Common.{◌≡◌, ◌+◌, length, take}
use Rattle.module_graph.specs.steps.Marks.{unmarked}
use Rattle.scope_bind.specs.steps.Cycles.{AreMarked}
use Rattle.scope_bind.proofs.cycles.mark_all.Given as goal

abbrev pub invariant-loop-number : goal.invariant-loop-number
invariant-loop-number l = record {
  marked : AreMarked (take l.number-index l.list) l.initial.marks l.initial.stack.items l.marks l.stack.items;
  shift : unmarked l.marks + length l.stack.items ≡ unmarked l.initial.marks + length l.initial.stack.items;
}
