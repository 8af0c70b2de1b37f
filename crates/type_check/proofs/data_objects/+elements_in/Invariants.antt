use Rattle.std.proofs.Common.{length}
use Rattle.type_check.proofs.data_objects.+elements_in.Given as goal

abbrev pub decreases-elements_in : goal.decreases-elements_in
decreases-elements_in l = length l.pairs.now
