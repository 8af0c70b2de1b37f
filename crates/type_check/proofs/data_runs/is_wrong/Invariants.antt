use Rattle.std.proofs.Common.{◌≡◌, ◌+◌, ◌-◌, ◌||◌, drop, length, map}
use Rattle.ftn_tree.specs.DataTypes as types
use Rattle.type_check.specs.steps.DataBy.{counted_object}
use Rattle.type_check.specs.steps.DataRuns.{AreWalked, run_seen}
use Rattle.type_check.proofs.data_runs.is_wrong.Given as goal

abbrev pub invariant-objects : goal.invariant-objects
invariant-objects l = record {
  wrong : types.is_wrong (types.runs_from 0 (map (counted_object l.setting) l.objects)) (run_seen l.run)
      ≡ l.wrong || types.is_wrong (types.runs_from l.walk.from (drop l.walk.at (map (counted_object l.setting) l.objects))) (run_seen l.run);
  walked : AreWalked (map (counted_object l.setting) l.objects) l.walk.at l.walk.from (l.run.from + l.run.count);
}

abbrev pub decreases-objects : goal.decreases-objects
decreases-objects l = length l.objects - l.walk.at
