use Rattle.std.proofs.Common.{refl}
use Rattle.module_graph.specs.Uses.{used_lists}
use Rattle.scope_bind.proofs.Marks.{first_least}
use Rattle.scope_bind.proofs.cycles.order_modules.Goals as goal

pub returns-in-Ok : goal.returns-in-Ok
returns-in-Ok c = record { order = c.in-Ok.ensures.order; none = c.in-Ok.ensures.no_cycle refl }

pub returns-in-Err-Cycle : goal.returns-in-Err-Cycle
returns-in-Err-Cycle c =
    let least = rw c.in-Err-Cycle.field-0-is at c.in-Err-Cycle.ensures.cycle in
    first_least (used_lists c.args.uses.now) c.in-Err-Cycle.cycle.items c.index.result.now least c.index.ensures
