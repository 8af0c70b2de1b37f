use Rattle.const_value.specs.steps.Telling.{group_told}
use Rattle.const_value.specs.steps.Told.{first_seen}
use Rattle.const_value.proofs.GatheredTurns.{turn}
use Rattle.const_value.proofs.statement_faults.groups_faults.Goals as goal

pub loop-group-preserved : goal.loop-group-preserved
loop-group-preserved c =
    turn (group_told c.args.view.now) c.args.groups.now c.loop-group.group-index c.group-item.result (first_seen c.args.faults.now) (first_seen c.loop-group.faults) (first_seen c.group_faults.new.faults) c.loop-group-test.true
    c.group-item.is c.loop-group.invariant c.in_ok-group_faults.ensures
