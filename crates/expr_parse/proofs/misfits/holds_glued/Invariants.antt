use Rattle.std.proofs.Common.{◌≡◌, length}
use Rattle.ftn_tree.specs.Misfits.{holds_glued}
use Rattle.expr_parse.proofs.misfits.holds_glued.Given as goal

abbrev pub decreases-loop-rest : goal.decreases-loop-rest
decreases-loop-rest l = length l.rest

abbrev pub invariant-loop-rest : goal.invariant-loop-rest
invariant-loop-rest l = holds_glued l.row ≡ holds_glued l.rest
