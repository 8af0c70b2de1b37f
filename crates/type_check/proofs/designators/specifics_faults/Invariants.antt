use Rattle.std.proofs.Common.{◌≡◌, drop}
use Rattle.type_check.specs.steps.Noted.{first_seen}
use Rattle.type_check.specs.steps.Stated.{noted_each, specific_told}
use Rattle.type_check.proofs.designators.specifics_faults.Given as goal

abbrev pub invariant-loop-name : goal.invariant-loop-name
invariant-loop-name l = noted_each l.setting.file (specific_told l.setting) (first_seen l.initial.faults) l.names ≡ noted_each l.setting.file (specific_told l.setting) (first_seen l.faults) (drop l.name-index l.names)
