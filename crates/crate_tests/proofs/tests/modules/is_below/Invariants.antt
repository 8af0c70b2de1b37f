use Rattle.std.proofs.Common.{◌<◌, All, take}
use Rattle.crate_tests.proofs.tests.modules.is_below.Given as goal

abbrev pub invariant-loop-used : goal.invariant-loop-used
invariant-loop-used l = All (λ used. used < l.count) (take l.used-index l.list)
