use Rattle.std.proofs.Common.{◌≡◌, drop, length, map, replicate, take, None}
use Rattle.const_value.specs.steps.Links.{name_of, put_all}
use Rattle.const_value.specs.steps.Names.{number_at}
use Rattle.const_value.proofs.links.links_of.Given as goal

abbrev pub invariant-loop-entity : goal.invariant-loop-entity
invariant-loop-entity l = record {
  at : l.number ≡ l.entity-index;
  size : length l.entity_of.items ≡ length l.names.all.items;
  names : l.found.items ≡ map (name_of (number_at l.names.numbers.items)) (take l.entity-index l.entities);
  entities : put_all (number_at l.names.numbers.items) 0 (replicate (length l.names.all.items) None) l.entities
      ≡ put_all (number_at l.names.numbers.items) l.number l.entity_of.items (drop l.entity-index l.entities);
}
