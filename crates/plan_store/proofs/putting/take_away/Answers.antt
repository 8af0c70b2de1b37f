use Rattle.std.proofs.Common.{ap, Err}
use Rattle.plan_store.proofs.PlanPuts.{gone_already}
use Rattle.plan_store.proofs.putting.take_away.Goals as goal

pub returns-in-Err-Absent-clause-gone : goal.returns-in-Err-Absent-clause-gone
returns-in-Err-Absent-clause-gone g c =
    gone_already c.args.name.now (g.S.Store.files c.args.store.now) (g.S.Store.files c.remove.new.self) c.in-Err-Absent.ensures.absent (ap Err c.in-Err-Absent.field-0-is) (c.in-Err-Absent.ensures.same (ap Err c.in-Err-Absent.field-0-is))
