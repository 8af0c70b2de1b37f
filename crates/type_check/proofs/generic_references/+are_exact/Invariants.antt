use Rattle.std.proofs.Common.{length}
use Rattle.type_check.proofs.generic_references.+are_exact.Given as goal

abbrev pub decreases-are_exact : goal.decreases-are_exact
decreases-are_exact l = length l.formals.now
