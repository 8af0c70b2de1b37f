use Rattle.std.proofs.Common.{take, All}
use Rattle.ftn_base.specs.Storage.{IsWithin}
use Rattle.crate_tests.proofs.tests.tie_rows.are_within.Given as goal

abbrev pub invariant-loop-tie : goal.invariant-loop-tie
invariant-loop-tie l = All (IsWithin l.sizes) (take l.tie-index l.ties)
