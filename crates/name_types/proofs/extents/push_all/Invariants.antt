use Rattle.std.proofs.Common.{◌≡◌, ◌++◌, drop}
use Rattle.ftn_tree.specs.Extents.{extents, extents_from}
use Rattle.name_types.proofs.extents.push_all.Given as goal

abbrev pub invariant-loop-tree : goal.invariant-loop-tree
invariant-loop-tree l = (l.file ≡ l.tree-index) × (extents l.files ≡ l.found.items ++ extents_from l.file (drop l.tree-index l.files))
