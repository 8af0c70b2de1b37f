use Rattle.std.proofs.Common.{◌≡◌, take}
use Rattle.std.specs.List.{flat_map}
use Rattle.ftn_tree.specs.Cases.{constructs_of}
use Rattle.const_value.specs.steps.Cases.{construct_told}
use Rattle.const_value.specs.steps.Findings.{gathered}
use Rattle.const_value.specs.steps.Measuring.{given}
use Rattle.const_value.specs.steps.Told.{first_seen}
use Rattle.const_value.proofs.case_faults.+unit_faults.Given as goal

abbrev pub invariant-loop-inner : goal.invariant-loop-inner
invariant-loop-inner l =
    first_seen l.faults ≡ gathered (first_seen l.initial.faults)
    (flat_map (construct_told (given l.view) l.view.project.now.files.now l.view.file) (flat_map constructs_of (take l.inner-index l.inner-items)))
