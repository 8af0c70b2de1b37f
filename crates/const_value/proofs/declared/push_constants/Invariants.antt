use Rattle.std.proofs.Common.{◌≡◌, ◌++◌, map, take}
use Rattle.ftn_tree.specs.Declarations.{of_constant}
use Rattle.const_value.proofs.declared.push_constants.Given as goal

abbrev pub invariant-loop-constant : goal.invariant-loop-constant
invariant-loop-constant l = l.found.items ≡ l.initial.found.items ++ map of_constant (take l.constant-index l.constants)
