use Rattle.module_graph.specs.Uses.{used_lists}
use Rattle.module_graph.proofs.Endless.{complete}
use Rattle.module_graph.proofs.Whole.{whole_on_no_cycle, whole_order}
use Rattle.module_graph.proofs.modules.order.Goals as goal

pub returns-then-is_whole-clause-order : goal.returns-then-is_whole-clause-order
returns-then-is_whole-clause-order c =
    whole_order (used_lists c.args.uses.now) c.in_ok-placed.placed.list.items c.in_ok-placed.placed.marks.items c.in_ok-placed.ensures (c.is_whole.ensures c.if-is_whole.true)

pub returns-then-is_whole-clause-no_cycle : goal.returns-then-is_whole-clause-no_cycle
returns-then-is_whole-clause-no_cycle c =
    λ _. whole_on_no_cycle (used_lists c.args.uses.now) c.in_ok-placed.placed.list.items c.in_ok-placed.placed.marks.items c.in_ok-placed.ensures (c.is_whole.ensures c.if-is_whole.true)

pub returns-in-None-clause-order : goal.returns-in-None-clause-order
returns-in-None-clause-order c =
    let stuck = c.in_ok-placed.ensures in
    let none = rw c.in-None.is at c.in_ok-cycle.ensures in
    complete (used_lists c.args.uses.now) c.in_ok-placed.placed.list.items c.in_ok-placed.placed.marks.items c.requires.known stuck none
