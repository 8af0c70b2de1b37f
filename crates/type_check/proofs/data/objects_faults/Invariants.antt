use Rattle.std.proofs.Common.{◌≡◌, take}
use Rattle.std.specs.List.{flat_map}
use Rattle.type_check.specs.steps.DataBy.{object_told}
use Rattle.type_check.specs.steps.Noted.{first_seen, noted}
use Rattle.type_check.proofs.data.objects_faults.Given as goal

abbrev pub invariant-loop-object : goal.invariant-loop-object
invariant-loop-object l = first_seen l.faults ≡ noted l.setting.file (first_seen l.initial.faults) (flat_map (object_told l.setting) (take l.object-index l.objects))
