use Rattle.std.proofs.Common.{◌≡◌, ◌++◌, map, take}
use Rattle.ftn_tree.specs.Wants.{of_constant}
use Rattle.ftn_tree.proofs.wants.declared.place_constants.Given as goal

abbrev pub invariant-loop-constant : goal.invariant-loop-constant
invariant-loop-constant l = l.found.items ≡ l.initial.found.items ++ map of_constant (take l.constant-index l.constants)
