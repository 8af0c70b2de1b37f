use Rattle.std.proofs.Common.{◌∙◌, ap}
use Rattle.std.specs.List.{flat_map}
use Rattle.const_value.specs.steps.Findings.{gathered}
use Rattle.const_value.specs.steps.Telling.{designator_told}
use Rattle.const_value.specs.steps.Told.{first_seen}
use Rattle.const_value.proofs.GatheredTurns.{turn}
use Rattle.const_value.proofs.statement_faults.sets_faults.Goals as goal

pub loop-set-preserved : goal.loop-set-preserved
loop-set-preserved c =
    let told = designator_told c.args.view.now in
    turn (flat_map told) c.args.sets.now c.loop-set.set-index c.set-item.result (first_seen c.args.faults.now) (first_seen c.loop-set.faults) (first_seen c.designators_faults.new.faults)
    c.loop-set-test.true c.set-item.is c.loop-set.invariant
    (c.in_ok-designators_faults.ensures ∙ ap (λ ds. gathered (first_seen c.loop-set.faults) (flat_map told ds)) c.as_slice.ensures)
