use Rattle.std.proofs.Common.{◌≡◌, ◌++◌, take}
use Rattle.std.specs.List.{flat_map}
use Rattle.const_value.specs.steps.References.{mentions_of_pair}
use Rattle.const_value.proofs.circles.push_bounds.Given as goal

abbrev pub invariant-loop-pair : goal.invariant-loop-pair
invariant-loop-pair l = l.found.items ≡ l.initial.found.items ++ flat_map mentions_of_pair (take l.pair-index l.pairs)
