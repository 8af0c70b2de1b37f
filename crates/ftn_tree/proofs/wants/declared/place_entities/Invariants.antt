use Rattle.std.proofs.Common.{◌≡◌, ◌++◌, take}
use Rattle.std.specs.List.{flat_map}
use Rattle.ftn_tree.specs.Wants.{of_entity}
use Rattle.ftn_tree.proofs.wants.declared.place_entities.Given as goal

abbrev pub invariant-loop-entity : goal.invariant-loop-entity
invariant-loop-entity l = l.found.items ≡ l.initial.found.items ++ flat_map of_entity (take l.entity-index l.entities)
