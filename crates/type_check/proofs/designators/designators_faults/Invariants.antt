use Rattle.std.proofs.Common.{◌≡◌, drop}
use Rattle.type_check.specs.steps.Noted.{first_seen}
use Rattle.type_check.specs.steps.Stated.{noted_each, designator_told}
use Rattle.type_check.proofs.designators.designators_faults.Given as goal

abbrev pub invariant-loop-designator : goal.invariant-loop-designator
invariant-loop-designator l = noted_each l.setting.file (designator_told l.setting) (first_seen l.initial.faults) l.designators ≡ noted_each l.setting.file (designator_told l.setting) (first_seen l.faults) (drop l.designator-index l.designators)
