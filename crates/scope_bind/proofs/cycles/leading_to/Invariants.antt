use Rattle.std.proofs.Common.{◌+◌, length}
use Rattle.module_graph.specs.Uses.{used_lists}
use Rattle.module_graph.specs.steps.Marks.{unmarked}
use Rattle.scope_bind.specs.steps.Cycles.{IsLeading}
use Rattle.scope_bind.proofs.cycles.leading_to.Given as goal

abbrev pub invariant-turns : goal.invariant-turns
invariant-turns l = IsLeading (used_lists l.uses) (used_lists l.users.items) l.target l.marks.items l.stack.items

abbrev pub decreases-turns : goal.decreases-turns
decreases-turns l = unmarked l.marks.items + length l.stack.items
