use Rattle.storage_layout.proofs.Named.{longer}
use Rattle.storage_layout.proofs.naming.lengthen.Goals as goal

pub returns-clause-ends : goal.returns-clause-ends
returns-clause-ends c = λ number scope. longer c.args.ends.now c.insert.new.self c.args.member c.end_of-start.result c.args.units c.end_of-start.ensures c.in_ok-insert.ensures.updates.0 number scope
