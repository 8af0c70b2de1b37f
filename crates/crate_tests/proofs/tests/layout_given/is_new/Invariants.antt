use Rattle.std.proofs.Common.{◌≢◌, take, All}
use Rattle.crate_tests.proofs.tests.layout_given.is_new.Given as goal

abbrev pub invariant-loop-one : goal.invariant-loop-one
invariant-loop-one l = All (λ one. one.object ≢ l.member.object) (take l.one-index l.earlier)
