use Rattle.std.proofs.Common.{◌≡◌, ◌++◌, map, take}
use Rattle.ftn_tree.specs.Declarations.{of_entity, shared_bounds}
use Rattle.const_value.proofs.declared.push_entities.Given as goal

abbrev pub invariant-loop-entity : goal.invariant-loop-entity
invariant-loop-entity l = l.found.items ≡ l.initial.found.items ++ map (of_entity l.ty (shared_bounds l.attributes)) (take l.entity-index l.entities)
