use Rattle.std.proofs.Common.{◌≡◌, ◌++◌, take}
use Rattle.ftn_tree.specs.declared.parts.ArrayDecl.{ArrayDecl}
use Rattle.std.specs.List.{flat_map}
use Rattle.ftn_tree.specs.Wants.{of_bounds}
use Rattle.ftn_tree.proofs.wants.declared.place_arrays.Given as goal

abbrev pub invariant-loop-array : goal.invariant-loop-array
invariant-loop-array l = l.found.items ≡ l.initial.found.items ++ flat_map (λ (a : ArrayDecl). of_bounds a.bounds) (take l.array-index l.arrays)
