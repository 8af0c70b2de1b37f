use Rattle.const_value.specs.steps.Telling.{designator_told}
use Rattle.const_value.specs.steps.Told.{first_seen}
use Rattle.const_value.proofs.GatheredTurns.{turn}
use Rattle.const_value.proofs.statement_faults.designators_faults.Goals as goal

pub loop-designator-preserved : goal.loop-designator-preserved
loop-designator-preserved c =
    turn (designator_told c.args.view.now) c.args.designators.now c.loop-designator.designator-index c.designator-item.result (first_seen c.args.faults.now) (first_seen c.loop-designator.faults) (first_seen c.designator_faults.new.faults) c.loop-designator-test.true
    c.designator-item.is c.loop-designator.invariant c.in_ok-designator_faults.ensures
