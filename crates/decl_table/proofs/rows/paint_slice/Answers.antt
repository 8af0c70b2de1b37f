use Rattle.std.proofs.Common.{◌∙◌, sym}
use Rattle.decl_table.proofs.Painting.{paint_one, paint_past, paint_done}
use Rattle.decl_table.proofs.rows.paint_slice.Goals as goal

pub loop-at-preserved : goal.loop-at-preserved
loop-at-preserved c =
    c.loop-at.invariant ∙ paint_one c.loop-at.at c.args.ending c.args.number c.loop-at.row c.loop-at-test.true c.if-at-ending.true

pub returns-else-at-ending : goal.returns-else-at-ending
returns-else-at-ending c =
    sym (c.loop-at.invariant ∙ paint_done c.loop-at.at c.args.ending c.args.number c.loop-at.row c.if-at-ending.false)

pub returns-after-loop-at : goal.returns-after-loop-at
returns-after-loop-at c =
    sym (c.loop-at.invariant ∙ paint_past c.loop-at.at c.args.ending c.args.number c.loop-at.row c.loop-at-test.false)
