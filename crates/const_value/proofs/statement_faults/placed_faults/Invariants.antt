use Rattle.std.proofs.Common.{◌≡◌, take}
use Rattle.std.specs.List.{flat_map}
use Rattle.const_value.specs.steps.Findings.{gathered}
use Rattle.const_value.specs.steps.Telling.{placed_told}
use Rattle.const_value.specs.steps.Told.{first_seen}
use Rattle.const_value.proofs.statement_faults.placed_faults.Given as goal

abbrev pub invariant-loop-one : goal.invariant-loop-one
invariant-loop-one l = first_seen l.faults ≡ gathered (first_seen l.initial.faults) (flat_map (placed_told l.view) (take l.one-index l.placed))
