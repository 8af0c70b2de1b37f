use Rattle.std.proofs.Common.{sym}
use Rattle.plan_file.proofs.Words.{parts_are, place_is_there}
use Rattle.plan_file.proofs.fields.split.Goals as goal

pub returns-in_err-at : goal.returns-in_err-at
returns-in_err-at c = λ word rest lacking is. absurd (place_is_there c.args.end c.args.bytes.now word rest (sym c.in_err-at.ensures.place) lacking is)

pub returns : goal.returns
returns c = λ word rest lacking is. parts_are c.args.end c.in_ok-at.at c.args.bytes.now word rest (sym c.in_ok-at.ensures.place) lacking is
