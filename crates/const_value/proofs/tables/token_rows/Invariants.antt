use Rattle.std.proofs.Common.{◌≡◌, ◌++◌, drop}
use Rattle.const_value.specs.steps.Tables.{rows_of}
use Rattle.const_value.proofs.tables.token_rows.Given as goal

abbrev pub invariant-loop-tree : goal.invariant-loop-tree
invariant-loop-tree l = rows_of l.files l.denotes ≡ l.rows.items ++ rows_of (drop l.tree-index l.files) l.rest
