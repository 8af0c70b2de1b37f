use Rattle.std.proofs.Common.{◌≡◌, ◌+◌, ◌≤◌, length}
use Rattle.ftn_tree.specs.Misfits.{holds_keyword}
use Rattle.expr_parse.proofs.misfits.holds_keyword.Given as goal

abbrev pub decreases-loop-rest : goal.decreases-loop-rest
decreases-loop-rest l = length l.rest

abbrev pub invariant-loop-rest : goal.invariant-loop-rest
invariant-loop-rest l = (holds_keyword 0 l.row ≡ holds_keyword l.depth l.rest) × (l.depth + length l.rest ≤ length l.row)
