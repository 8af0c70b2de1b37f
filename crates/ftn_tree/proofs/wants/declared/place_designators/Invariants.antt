use Rattle.std.proofs.Common.{◌≡◌, ◌++◌, take}
use Rattle.std.specs.List.{flat_map}
use Rattle.ftn_tree.specs.Wants.{of_designator}
use Rattle.ftn_tree.proofs.wants.declared.place_designators.Given as goal

abbrev pub invariant-loop-designator : goal.invariant-loop-designator
invariant-loop-designator l = l.found.items ≡ l.initial.found.items ++ flat_map of_designator (take l.designator-index l.designators)
