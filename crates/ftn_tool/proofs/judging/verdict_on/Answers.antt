use Rattle.ftn_tool.proofs.FormVerdicts.{gives_order}
use Rattle.ftn_tool.proofs.Trees.{units_fit}
use Rattle.ftn_tool.proofs.judging.verdict_on.Goals as goal

pub checked-requires-clause-small : goal.checked-requires-clause-small
checked-requires-clause-small c = rw c.deref.ensures.value (units_fit _ c.args.files.now c.in-Ok.trees.items c.requires c.in-Ok.ensures.trees.0)

pub returns : goal.returns
returns c =
    gives_order c.args.command.now c.in-Apply.order c.in-Apply.field-1 c.args.files.now c.in-Ok.trees.items c.verdict_on_order.result c.in-Apply.is c.requires
    (rw c.edition.ensures at c.in-Ok.ensures.trees) c.verdict_on_order.ensures
