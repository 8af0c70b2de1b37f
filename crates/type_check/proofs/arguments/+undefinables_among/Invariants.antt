use Rattle.std.proofs.Common.{length}
use Rattle.type_check.proofs.arguments.+undefinables_among.Given as goal

abbrev pub decreases-undefinables_among : goal.decreases-undefinables_among
decreases-undefinables_among l = length l.formals.now
