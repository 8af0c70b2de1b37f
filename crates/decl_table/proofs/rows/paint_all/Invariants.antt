use Rattle.std.proofs.Common.{◌≡◌, ◌++◌, drop}
use Rattle.decl_table.specs.steps.Rows.{rows_of, around_of, rows_after, around_after}
use Rattle.decl_table.proofs.rows.paint_all.Given as goal

abbrev pub invariant-loop-extent : goal.invariant-loop-extent
invariant-loop-extent l =
    (l.number ≡ l.extent-index)
    × (rows_of l.files l.extents ≡ rows_after l.number (drop l.extent-index l.extents) l.rows.items)
    × (around_of l.files l.extents ≡ l.around.items ++ around_after l.number (drop l.extent-index l.extents) l.rows.items)
