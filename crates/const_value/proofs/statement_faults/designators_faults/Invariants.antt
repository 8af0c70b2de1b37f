use Rattle.std.proofs.Common.{◌≡◌, take}
use Rattle.std.specs.List.{flat_map}
use Rattle.const_value.specs.steps.Findings.{gathered}
use Rattle.const_value.specs.steps.Telling.{designator_told}
use Rattle.const_value.specs.steps.Told.{first_seen}
use Rattle.const_value.proofs.statement_faults.designators_faults.Given as goal

abbrev pub invariant-loop-designator : goal.invariant-loop-designator
invariant-loop-designator l = first_seen l.faults ≡ gathered (first_seen l.initial.faults) (flat_map (designator_told l.view) (take l.designator-index l.designators))
