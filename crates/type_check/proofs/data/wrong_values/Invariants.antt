use Rattle.std.proofs.Common.{◌≡◌, ◌≤◌, ◌*◌, ◌^◌, drop, map}
use Rattle.ftn_tree.specs.DataTypes as types
use Rattle.type_check.specs.steps.DataBy.{counted_object, counted_value}
use Rattle.type_check.specs.steps.DataRuns.{AreWalked}
use Rattle.type_check.specs.steps.Noted.{first_seen, noted}
use Rattle.type_check.proofs.data.wrong_values.Given as goal

abbrev pub invariant-loop-value : goal.invariant-loop-value
invariant-loop-value l = record {
  told : noted l.setting.file (first_seen l.initial.faults) (types.wrong_values (types.runs_from 0 (map (counted_object l.setting) l.objects)) (types.runs_from 0 (map (counted_value l.setting) l.values)))
      ≡ noted l.setting.file (first_seen l.faults) (types.wrong_values (types.runs_from 0 (map (counted_object l.setting) l.objects)) (types.runs_from l.from (map (counted_value l.setting) (drop l.value-index l.values))));
  walked : AreWalked (map (counted_object l.setting) l.objects) l.walk.at l.walk.from l.from;
  few : l.from ≤ l.value-index * 2 ^ 32;
}
