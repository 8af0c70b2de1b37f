use Rattle.std.proofs.Common.{take, All}
use Rattle.ftn_base.specs.StorageGiven.{IsObjectOf}
use Rattle.crate_tests.proofs.tests.layout_given.are_at_home.Given as goal

abbrev pub invariant-loop-member : goal.invariant-loop-member
invariant-loop-member l = All (λ member. IsObjectOf l.objects member.scope member.object) (take l.member-index l.members)
