use Rattle.std.proofs.Common.{◌∙◌, ap}
use Rattle.std.specs.List.{flat_map}
use Rattle.ftn_tree.specs.Cases.{constructs_in}
use Rattle.const_value.specs.steps.Cases.{construct_told}
use Rattle.const_value.specs.steps.Findings.{gathered}
use Rattle.const_value.specs.steps.Measuring.{given}
use Rattle.const_value.specs.steps.Told.{first_seen}
use Rattle.const_value.proofs.Constructs.{nest_noted, within}
use Rattle.const_value.proofs.GatheredTurns.{inner_turn}
use Rattle.const_value.proofs.case_faults.+blocks.Goals as goal

pub arms_faults-loop-arm-preserved : goal.arms_faults-loop-arm-preserved
arms_faults-loop-arm-preserved t c =
    let view = c.args.view.now in
    let told = construct_told (given view) view.project.now.files.now view.file in
    inner_turn told within c.args.arms.now c.loop-arm.arm-index c.arm-item.result (first_seen c.args.faults.now) (first_seen c.loop-arm.faults) (first_seen c.blocks_faults.new.faults)
    c.loop-arm-test.true c.arm-item.is c.loop-arm.invariant
    (c.in_ok-blocks_faults.ensures ∙ ap (λ blocks. gathered (first_seen c.loop-arm.faults) (flat_map told (flat_map constructs_in blocks))) c.as_slice.ensures)

pub block_faults-returns-in_ok-arms_faults-in-Nest : goal.block_faults-returns-in_ok-arms_faults-in-Nest
block_faults-returns-in_ok-arms_faults-in-Nest t c =
    let view = c.args.view.now in
    let told = construct_told (given view) view.project.now.files.now view.file in
    nest_noted told c.args.block.now c.in-Nest.opening c.in-Nest.arms c.as_slice.result.now c.as_slice-in-Nest.result.now c.in-Nest.ending (first_seen c.args.faults.now)
    (first_seen c.construct_faults.new.faults) (first_seen c.arms_faults.new.faults) c.in-Nest.is c.as_slice.ensures c.as_slice-in-Nest.ensures c.in_ok-construct_faults-in-Nest.ensures
    c.in_ok-arms_faults-in-Nest.ensures

pub blocks_faults-loop-block-preserved : goal.blocks_faults-loop-block-preserved
blocks_faults-loop-block-preserved t c =
    let view = c.args.view.now in
    inner_turn (construct_told (given view) view.project.now.files.now view.file) constructs_in c.args.blocks.now c.loop-block.block-index c.block-item.result (first_seen c.args.faults.now)
    (first_seen c.loop-block.faults) (first_seen c.block_faults.new.faults) c.loop-block-test.true c.block-item.is c.loop-block.invariant c.in_ok-block_faults.ensures
