use Rattle.std.proofs.Common.{take}
use Rattle.ftn_tool.specs.BuiltFaults.{AreTreesOf}
use Rattle.ftn_tool.proofs.checking.read_trees.Given as goal

abbrev pub invariant-files : goal.invariant-files
invariant-files l = AreTreesOf l.edition (take l.file-index l.files) l.trees.items
