use Rattle.module_graph.proofs.Waits.{added_here, added_kept, added_only}
use Rattle.module_graph.proofs.waiting.add.Goals as goal

pub returns-clause-here : goal.returns-clause-here
returns-clause-here c = added_here c.args.ready.now c.insert.new.self c.args.number c.in_ok-_is_new.ensures.updates

pub returns-clause-kept : goal.returns-clause-kept
returns-clause-kept c = added_kept c.args.ready.now c.insert.new.self c.args.number c.in_ok-_is_new.ensures.updates

pub returns-clause-only : goal.returns-clause-only
returns-clause-only c = added_only c.args.ready.now c.insert.new.self c.args.number c.in_ok-_is_new.ensures.updates
