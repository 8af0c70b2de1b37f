use Rattle.std.proofs.Common.{◌≡◌, ◌++◌, take}
use Rattle.std.specs.List.{flat_map}
use Rattle.ftn_tree.specs.Wants.{of_bound}
use Rattle.ftn_tree.proofs.wants.places.place_bounds.Given as goal

abbrev pub invariant-loop-pair : goal.invariant-loop-pair
invariant-loop-pair l = l.found.items ≡ l.initial.found.items ++ flat_map of_bound (take l.pair-index l.pairs)
