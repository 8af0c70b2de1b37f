use Rattle.std.proofs.Common.{◌≡◌, ◌++◌, take}
use Rattle.std.specs.List.{flat_map}
use Rattle.ftn_tree.specs.PartMentions.{in_array}
use Rattle.ftn_tree.proofs.mentions.entities.push_arrays.Given as goal

abbrev pub invariant-loop-array : goal.invariant-loop-array
invariant-loop-array l = l.found.items ≡ l.initial.found.items ++ flat_map in_array (take l.array-index l.arrays)
