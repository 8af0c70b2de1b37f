use Rattle.std.proofs.Common.{◌≡◌, ◌++◌, drop}
use Rattle.const_value.specs.steps.EntityLists.{kinds_from}
use Rattle.const_value.proofs.entity_lists.kinds_of.Given as goal

abbrev pub invariant-loop-entity : goal.invariant-loop-entity
invariant-loop-entity l = record {
  at : l.number ≡ l.entity-index;
  all : kinds_from l.project l.known 0 l.entity-items ≡ l.kinds.items ++ kinds_from l.project l.known l.number (drop l.entity-index l.entity-items);
}
