use Rattle.std.proofs.Common.{length}
use Rattle.rename_ref.proofs.first_meaning.expression.+value.Given as goal

abbrev pub decreases-value : goal.decreases-value
decreases-value l = length l.terms.now
