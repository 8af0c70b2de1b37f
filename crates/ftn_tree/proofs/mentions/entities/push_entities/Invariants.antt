use Rattle.std.proofs.Common.{◌≡◌, ◌++◌, take}
use Rattle.std.specs.List.{flat_map}
use Rattle.ftn_tree.specs.PartMentions.{in_entity}
use Rattle.ftn_tree.proofs.mentions.entities.push_entities.Given as goal

abbrev pub invariant-loop-entity : goal.invariant-loop-entity
invariant-loop-entity l = l.found.items ≡ l.initial.found.items ++ flat_map (in_entity l.said) (take l.entity-index l.entities)
