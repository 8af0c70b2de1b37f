use Rattle.std.proofs.Common.{length}
use Rattle.const_value.proofs.given_runs.+place_in.Given as goal

abbrev pub decreases-place_in : goal.decreases-place_in
decreases-place_in l = length l.bounds.now
