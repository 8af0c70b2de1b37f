use Rattle.std.proofs.Common.{◌≡◌, ◌≤◌, ◌*◌, ◌^◌, drop, map}
use Rattle.type_check.specs.steps.DataBy.{counted_value, total_of}
use Rattle.type_check.proofs.DataTotals.{total_from}
use Rattle.type_check.proofs.data.values_in.Given as goal

abbrev pub invariant-loop-value : goal.invariant-loop-value
invariant-loop-value l = record {
  total : total_of (map (counted_value l.setting) l.values) ≡ total_from l.total (map (counted_value l.setting) (drop l.value-index l.values));
  few : l.total ≤ l.value-index * 2 ^ 32;
}
