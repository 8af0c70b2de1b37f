use Rattle.std.proofs.Common.{◌≡◌, take, AllPairs}
use Rattle.crate_tests.proofs.tests.layout_given.are_named.Given as goal

abbrev pub invariant-loop-number : goal.invariant-loop-number
invariant-loop-number l = AllPairs (λ earlier later. earlier.block ≡ later.block → earlier.named ≡ later.named) (take l.number l.blocks)
