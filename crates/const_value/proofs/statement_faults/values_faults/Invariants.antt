use Rattle.std.proofs.Common.{◌≡◌, take}
use Rattle.std.specs.List.{flat_map}
use Rattle.ftn_tree.specs.ConstantFaults.{names_of_value}
use Rattle.const_value.specs.steps.Findings.{gathered}
use Rattle.const_value.specs.steps.Telling.{name_told}
use Rattle.const_value.specs.steps.Told.{first_seen}
use Rattle.const_value.proofs.statement_faults.values_faults.Given as goal

abbrev pub invariant-loop-value : goal.invariant-loop-value
invariant-loop-value l = first_seen l.faults ≡ gathered (first_seen l.initial.faults) (flat_map (name_told l.view) (flat_map names_of_value (take l.value-index l.values)))
