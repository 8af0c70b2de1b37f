use Rattle.std.proofs.Common.{◌≡◌, ◌++◌, drop, map}
use Rattle.const_value.specs.steps.Giving.{objects_given}
use Rattle.const_value.specs.steps.GivingSeen.{ArePast, supply_seen}
use Rattle.const_value.specs.steps.Telling.{sight_of}
use Rattle.const_value.proofs.givens.push_objects.Given as goal

abbrev pub invariant-loop-designator : goal.invariant-loop-designator
invariant-loop-designator l = record {
  given : l.initial.found.items ++ objects_given (sight_of l.view) l.scope (map supply_seen l.supplies) 0 l.designators
      ≡ l.found.items ++ objects_given (sight_of l.view) l.scope (map supply_seen l.supplies) l.from (drop l.designator-index l.designators);
  past : ArePast l.from l.at (map supply_seen l.supplies);
}
