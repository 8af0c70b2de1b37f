use Rattle.std.proofs.Common.{length}
use Rattle.type_check.proofs.arguments.+misfits_among.Given as goal

abbrev pub decreases-misfits_among : goal.decreases-misfits_among
decreases-misfits_among l = length l.formals.now
