use Rattle.std.proofs.Common.{◌≡◌, take}
use Rattle.std.specs.List.{flat_map}
use Rattle.const_value.specs.steps.Findings.{gathered}
use Rattle.const_value.specs.steps.Telling.{designator_told}
use Rattle.const_value.specs.steps.Told.{first_seen}
use Rattle.const_value.proofs.statement_faults.sets_faults.Given as goal

abbrev pub invariant-loop-set : goal.invariant-loop-set
invariant-loop-set l = first_seen l.faults ≡ gathered (first_seen l.initial.faults) (flat_map (flat_map (designator_told l.view)) (take l.set-index l.sets))
