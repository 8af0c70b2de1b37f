use Rattle.ftn_tree.specs.declared.unit.Arm.{out-Arm}
use Rattle.ftn_tree.specs.Extents.{layer_at}
use Rattle.const_value.specs.steps.Cases.{spans_at}
use Rattle.const_value.specs.steps.Measuring.{given}
use Rattle.const_value.proofs.KeptSpans.{list_more}
use Rattle.const_value.proofs.case_faults.lists_of.Goals as goal

pub loop-arm-preserved : goal.loop-arm-preserved
loop-arm-preserved c =
    let view = c.args.view.now in
    list_more (λ arm. spans_at (given view) (layer_at view.project.now.files.now view.file (out-Arm arm).head)) (λ list. list.items) c.args.arms.now c.loop-arm.arm-index c.arm-item.result
    c.loop-arm.lists.items c.push.new.self.items c.in_ok-spans.spans c.loop-arm-test.true c.arm-item.is c.loop-arm.invariant c.in_ok-spans.ensures c.in_ok-push.ensures.items
