use Rattle.std.proofs.Common.{length}
use Rattle.type_check.proofs.arguments.+all_wanted.Given as goal

abbrev pub decreases-all_wanted : goal.decreases-all_wanted
decreases-all_wanted l = length l.parts.now
