use Rattle.std.proofs.Common.{◌≡◌, take}
use Rattle.std.specs.List.{flat_map}
use Rattle.ftn_tree.specs.Cases.{constructs_in}
use Rattle.const_value.specs.steps.Cases.{construct_told}
use Rattle.const_value.specs.steps.Findings.{gathered}
use Rattle.const_value.specs.steps.Measuring.{given}
use Rattle.const_value.specs.steps.Told.{first_seen}
use Rattle.const_value.proofs.Constructs.{within}
use Rattle.const_value.proofs.case_faults.+blocks.Given as goal

abbrev pub invariant-blocks_faults-loop-block : goal.invariant-blocks_faults-loop-block
invariant-blocks_faults-loop-block l =
    first_seen l.faults ≡ gathered (first_seen l.initial.faults)
    (flat_map (construct_told (given l.view) l.view.project.now.files.now l.view.file) (flat_map constructs_in (take l.block-index l.blocks)))

abbrev pub invariant-arms_faults-loop-arm : goal.invariant-arms_faults-loop-arm
invariant-arms_faults-loop-arm l =
    first_seen l.faults ≡ gathered (first_seen l.initial.faults)
    (flat_map (construct_told (given l.view) l.view.project.now.files.now l.view.file) (flat_map within (take l.arm-index l.arms)))
