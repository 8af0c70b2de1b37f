use Rattle.std.proofs.Common.{◌≡◌, take}
use Rattle.std.specs.List.{flat_map}
use Rattle.const_value.specs.steps.Findings.{gathered}
use Rattle.const_value.specs.steps.FirstFault.{unit_told}
use Rattle.const_value.specs.steps.Told.{first_seen}
use Rattle.const_value.proofs.project_faults.units_faults.Given as goal

abbrev pub invariant-loop-unit : goal.invariant-loop-unit
invariant-loop-unit l = first_seen l.faults ≡ gathered (first_seen l.initial.faults) (flat_map (unit_told l.view) (take l.unit-index l.units))
