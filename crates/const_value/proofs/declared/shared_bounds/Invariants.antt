use Rattle.std.proofs.Common.{◌≡◌, drop}
use Rattle.ftn_tree.specs.Declarations.{shared_bounds}
use Rattle.const_value.proofs.declared.shared_bounds.Given as goal

abbrev pub invariant-loop-attribute : goal.invariant-loop-attribute
invariant-loop-attribute l = shared_bounds l.attributes ≡ shared_bounds (drop l.attribute-index l.attributes)
