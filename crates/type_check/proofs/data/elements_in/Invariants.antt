use Rattle.std.proofs.Common.{◌≡◌, ◌≤◌, ◌-◌, ◌^◌, drop, map, option_map}
use Rattle.type_check.specs.steps.DataBy.{counted_object, limited, total_of}
use Rattle.type_check.proofs.DataTotals.{total_from}
use Rattle.type_check.proofs.data.elements_in.Given as goal

abbrev pub invariant-loop-object : goal.invariant-loop-object
invariant-loop-object l = record {
  total : option_map limited (total_of (map (counted_object l.setting) l.objects)) ≡ option_map limited (total_from l.total (map (counted_object l.setting) (drop l.object-index l.objects)));
  within : l.total ≤ 2 ^ 128 - 1;
}
