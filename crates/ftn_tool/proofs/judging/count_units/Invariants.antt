use Rattle.std.proofs.Common.{◌≡◌, ◌+◌, drop}
use Rattle.ftn_tool.specs.BuiltFaults.{units_of}
use Rattle.ftn_tool.proofs.judging.count_units.Given as goal

abbrev pub invariant-trees : goal.invariant-trees
invariant-trees l = l.count + units_of (drop l.tree-index l.trees) ≡ units_of l.trees
