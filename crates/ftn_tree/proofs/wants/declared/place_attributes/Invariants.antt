use Rattle.std.proofs.Common.{◌≡◌, ◌++◌, take}
use Rattle.std.specs.List.{flat_map}
use Rattle.ftn_tree.specs.Wants.{of_attribute}
use Rattle.ftn_tree.proofs.wants.declared.place_attributes.Given as goal

abbrev pub invariant-loop-attribute : goal.invariant-loop-attribute
invariant-loop-attribute l = l.found.items ≡ l.initial.found.items ++ flat_map of_attribute (take l.attribute-index l.attributes)
