use Rattle.std.proofs.Common.{length}
use Rattle.type_check.proofs.arguments.+all_arguments_told.Given as goal

abbrev pub decreases-all_arguments_told : goal.decreases-all_arguments_told
decreases-all_arguments_told l = length l.parts.now
