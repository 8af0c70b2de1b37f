use Rattle.std.proofs.Common.{◌≤◌, take, All}
use Rattle.crate_tests.proofs.tests.layout_given.are_filled.Given as goal

abbrev pub invariant-loop-object : goal.invariant-loop-object
invariant-loop-object l = All (λ object. 1 ≤ object.units) (take l.object-index l.objects)
