use Rattle.const_value.specs.steps.Telling.{placed_told}
use Rattle.const_value.specs.steps.Told.{first_seen}
use Rattle.const_value.proofs.GatheredTurns.{turn}
use Rattle.const_value.proofs.statement_faults.placed_faults.Goals as goal

pub loop-one-preserved : goal.loop-one-preserved
loop-one-preserved c =
    turn (placed_told c.args.view.now) c.args.placed.now c.loop-one.one-index c.one-item.result (first_seen c.args.faults.now) (first_seen c.loop-one.faults) (first_seen c.placed_fault.new.faults)
    c.loop-one-test.true c.one-item.is c.loop-one.invariant c.in_ok-placed_fault.ensures
