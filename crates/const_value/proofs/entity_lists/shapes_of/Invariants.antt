use Rattle.std.proofs.Common.{◌≡◌, ◌++◌, drop}
use Rattle.const_value.specs.steps.EntityLists.{shapes_from}
use Rattle.const_value.proofs.entity_lists.shapes_of.Given as goal

abbrev pub invariant-loop-entity : goal.invariant-loop-entity
invariant-loop-entity l = record {
  at : l.number ≡ l.entity-index;
  all : shapes_from l.project l.known 0 l.entity-items ≡ l.shapes.items ++ shapes_from l.project l.known l.number (drop l.entity-index l.entity-items);
}
