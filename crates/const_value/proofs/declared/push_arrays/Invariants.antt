use Rattle.std.proofs.Common.{◌≡◌, ◌++◌, map, take}
use Rattle.ftn_tree.specs.Declarations.{of_array}
use Rattle.const_value.proofs.declared.push_arrays.Given as goal

abbrev pub invariant-loop-array : goal.invariant-loop-array
invariant-loop-array l = l.found.items ≡ l.initial.found.items ++ map of_array (take l.array-index l.arrays)
