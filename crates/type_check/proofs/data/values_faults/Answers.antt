use Rattle.type_check.specs.steps.DataBy.{value_told}
use Rattle.type_check.specs.steps.Noted.{first_seen}
use Rattle.type_check.proofs.NotedLaws.{turn}
use Rattle.type_check.proofs.data.values_faults.Goals as goal

pub loop-value-preserved : goal.loop-value-preserved
loop-value-preserved c =
    let s = c.args.setting.now in
    turn s.file (value_told s) c.args.values.now c.loop-value.value-index c.value-item.result (first_seen c.args.faults.now) (first_seen c.loop-value.faults) (first_seen c.value_faults.new.faults)
    c.loop-value-test.true c.value-item.is c.loop-value.invariant c.value_faults.ensures
