use Rattle.std.proofs.Common.{◌≢◌, take, AllPairs}
use Rattle.crate_tests.proofs.tests.layout_given.are_once.Given as goal

abbrev pub invariant-loop-number : goal.invariant-loop-number
invariant-loop-number l = AllPairs (λ earlier later. earlier.object ≢ later.object) (take l.number l.members)
