use Rattle.std.proofs.Common.{◌≡◌, ◌<◌, ◌^◌, take, sum}
use Rattle.crate_tests.proofs.tests.tie_rows.are_small.Given as goal

abbrev pub invariant-loop-size : goal.invariant-loop-size
invariant-loop-size l = (l.total ≡ sum (take l.size-index l.sizes)) × (l.total < 2 ^ 31)
