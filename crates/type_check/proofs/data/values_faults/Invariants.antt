use Rattle.std.proofs.Common.{◌≡◌, take}
use Rattle.std.specs.List.{flat_map}
use Rattle.type_check.specs.steps.DataBy.{value_told}
use Rattle.type_check.specs.steps.Noted.{first_seen, noted}
use Rattle.type_check.proofs.data.values_faults.Given as goal

abbrev pub invariant-loop-value : goal.invariant-loop-value
invariant-loop-value l = first_seen l.faults ≡ noted l.setting.file (first_seen l.initial.faults) (flat_map (value_told l.setting) (take l.value-index l.values))
