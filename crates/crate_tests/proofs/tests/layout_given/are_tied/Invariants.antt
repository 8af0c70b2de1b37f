use Rattle.std.proofs.Common.{take, All}
use Rattle.ftn_base.specs.StorageGiven.{IsTieOf}
use Rattle.crate_tests.proofs.tests.layout_given.are_tied.Given as goal

abbrev pub invariant-loop-tie : goal.invariant-loop-tie
invariant-loop-tie l = All (IsTieOf l.objects) (take l.tie-index l.ties)
