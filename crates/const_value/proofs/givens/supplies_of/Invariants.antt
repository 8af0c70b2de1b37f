use Rattle.std.proofs.Common.{◌≡◌, ◌++◌, drop, map}
use Rattle.const_value.specs.steps.Giving.{fits_from, supplies_from}
use Rattle.const_value.specs.steps.GivingSeen.{supply_seen}
use Rattle.const_value.specs.steps.Telling.{sight_of}
use Rattle.const_value.proofs.GivenTurns.{AreRowedTo}
use Rattle.const_value.proofs.givens.supplies_of.Given as goal

abbrev pub invariant-loop-value : goal.invariant-loop-value
invariant-loop-value l = record {
  same : supplies_from (sight_of l.view) 0 l.values ≡ map supply_seen l.supplies.items ++ supplies_from (sight_of l.view) l.from (drop l.value-index l.values);
  fits : fits_from (sight_of l.view) 0 l.values ≡ fits_from (sight_of l.view) l.from (drop l.value-index l.values);
  rowed : AreRowedTo 0 (map supply_seen l.supplies.items) l.from;
}
