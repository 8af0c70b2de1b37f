use Rattle.std.proofs.Common.{◌≡◌, ◌-◌, length}
use Rattle.decl_table.specs.steps.Rows.{painted}
use Rattle.decl_table.proofs.rows.paint_slice.Given as goal

abbrev pub invariant-loop-at : goal.invariant-loop-at
invariant-loop-at l = painted l.fn.opening l.ending l.number l.initial.row ≡ painted l.at l.ending l.number l.row

abbrev pub decreases-loop-at : goal.decreases-loop-at
decreases-loop-at l = length l.row - l.at
