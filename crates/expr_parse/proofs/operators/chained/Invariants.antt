use Rattle.std.proofs.Common.{◌≡◌, length}
use Rattle.expr_parse.specs.steps.Operators.{chained}
use Rattle.expr_parse.proofs.operators.chained.Given as goal

abbrev pub decreases-loop-left : goal.decreases-loop-left
decreases-loop-left l = length l.steps

abbrev pub invariant-loop-left : goal.invariant-loop-left
invariant-loop-left l = chained l.initial.steps l.initial.right ≡ chained l.steps l.right
