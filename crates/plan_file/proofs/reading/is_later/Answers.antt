use Rattle.std.proofs.Common.{sym}
use Rattle.plan_file.proofs.Order.{later_by_last}
use Rattle.plan_file.proofs.reading.is_later.Goals as goal

pub returns-in-Some : goal.returns-in-Some
returns-in-Some c = later_by_last c.args.files.now c.in-Some.last.now c.args.name.now c.lt.result (sym c.in-Some.ensures.value) c.requires c.lt.ensures
