use Rattle.std.proofs.Common.{◌≡◌, ◌++◌, ◌-◌, drop, length, map}
use Rattle.const_value.specs.steps.Giving.{end_of, object_given}
use Rattle.const_value.specs.steps.GivingSeen.{ArePast, object_seen, supply_seen}
use Rattle.const_value.specs.steps.Telling.{sight_of}
use Rattle.const_value.proofs.givens.push_object.Given as goal

abbrev pub invariant-values : goal.invariant-values
invariant-values l = record {
  given : l.initial.found.items ++ object_given (sight_of l.view) (object_seen l.object) (map supply_seen l.supplies)
      ≡ l.found.items ++ object_given (sight_of l.view) (object_seen l.object) (drop l.at (map supply_seen l.supplies));
  past : ArePast (end_of l.object.run) l.at (map supply_seen l.supplies);
}

abbrev pub decreases-values : goal.decreases-values
decreases-values l = length l.supplies - l.at
