use Rattle.module_graph.specs.Uses.{used_lists}
use Rattle.module_graph.specs.steps.Marks.{unmarked}
use Rattle.module_graph.specs.steps.Waiting.{IsGoing, waiter_lists}
use Rattle.module_graph.proofs.placing.place_ready.Given as goal

abbrev pub invariant-places : goal.invariant-places
invariant-places l = IsGoing (used_lists l.uses) l.list.items l.marks (waiter_lists l.waiting) l.ready.keys

abbrev pub decreases-places : goal.decreases-places
decreases-places l = unmarked l.marks
