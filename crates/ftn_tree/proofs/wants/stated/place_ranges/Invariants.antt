use Rattle.std.proofs.Common.{◌≡◌, ◌++◌, take}
use Rattle.std.specs.List.{flat_map}
use Rattle.ftn_tree.specs.Wants.{of_range}
use Rattle.ftn_tree.proofs.wants.stated.place_ranges.Given as goal

abbrev pub invariant-loop-range : goal.invariant-loop-range
invariant-loop-range l = l.found.items ≡ l.initial.found.items ++ flat_map of_range (take l.range-index l.ranges)
