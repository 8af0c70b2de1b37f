use Rattle.std.proofs.Common.{◌≡◌, ◌++◌, take}
use Rattle.std.specs.List.{flat_map}
use Rattle.ftn_tree.specs.Wants.{of_designators}
use Rattle.ftn_tree.proofs.wants.declared.place_sets.Given as goal

abbrev pub invariant-loop-set : goal.invariant-loop-set
invariant-loop-set l = l.found.items ≡ l.initial.found.items ++ flat_map of_designators (take l.set-index l.sets)
