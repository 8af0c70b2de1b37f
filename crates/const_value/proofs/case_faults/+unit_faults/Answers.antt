use Rattle.std.proofs.Common.{◌∙◌, ap}
use Rattle.std.specs.List.{flat_map}
use Rattle.std.proofs.lemmas.List.{take_all}
use Rattle.ftn_tree.specs.Cases.{constructs_of}
use Rattle.const_value.specs.steps.Cases.{construct_told}
use Rattle.const_value.specs.steps.Findings.{gathered}
use Rattle.const_value.specs.steps.Measuring.{given}
use Rattle.const_value.specs.steps.Told.{first_seen}
use Rattle.const_value.proofs.Constructs.{unit_noted}
use Rattle.const_value.proofs.GatheredTurns.{inner_turn}
use Rattle.const_value.proofs.case_faults.+unit_faults.Goals as goal

pub loop-inner-preserved : goal.loop-inner-preserved
loop-inner-preserved t c =
    let view = c.args.view.now in
    inner_turn (construct_told (given view) view.project.now.files.now view.file) constructs_of c.as_slice-inner-items.result.now c.loop-inner.inner-index c.inner-item.result
    (first_seen c.blocks_faults.new.faults) (first_seen c.loop-inner.faults) (first_seen c.unit_faults.new.faults) c.loop-inner-test.true c.inner-item.is c.loop-inner.invariant
    c.in_ok-unit_faults.ensures

pub returns : goal.returns
returns t c =
    let view = c.args.view.now in
    let told = construct_told (given view) view.project.now.files.now view.file in
    unit_noted told c.args.unit.now c.as_slice.result.now c.as_slice-inner-items.result.now (first_seen c.args.faults.now) (first_seen c.blocks_faults.new.faults) (first_seen c.loop-inner.faults)
    c.as_slice.ensures c.as_slice-inner-items.ensures c.in_ok-blocks_faults.ensures
    (c.loop-inner.invariant ∙ ap (λ units. gathered (first_seen c.blocks_faults.new.faults) (flat_map told (flat_map constructs_of units)))
    (take_all c.loop-inner.inner-index c.as_slice-inner-items.result.now c.loop-inner-test.false))
