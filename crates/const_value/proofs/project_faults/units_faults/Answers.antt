use Rattle.const_value.specs.steps.FirstFault.{unit_told}
use Rattle.const_value.specs.steps.Told.{first_seen}
use Rattle.const_value.proofs.GatheredTurns.{turn}
use Rattle.const_value.proofs.project_faults.units_faults.Goals as goal

pub loop-unit-preserved : goal.loop-unit-preserved
loop-unit-preserved c =
    turn (unit_told c.args.view.now) c.args.units.now c.loop-unit.unit-index c.unit-item.result (first_seen c.args.faults.now) (first_seen c.loop-unit.faults) (first_seen c.unit_faults.new.faults)
    c.loop-unit-test.true c.unit-item.is c.loop-unit.invariant c.in_ok-unit_faults.ensures
