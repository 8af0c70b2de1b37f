use Rattle.std.proofs.Common.{◌≡◌, take}
use Rattle.decl_table.specs.steps.Rows.{empty_rows}
use Rattle.decl_table.proofs.rows.empty_rows.Given as goal

abbrev pub invariant-loop-tree : goal.invariant-loop-tree
invariant-loop-tree l = l.rows.items ≡ empty_rows (take l.tree-index l.files)
