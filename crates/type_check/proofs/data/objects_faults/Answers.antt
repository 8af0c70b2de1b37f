use Rattle.type_check.specs.steps.DataBy.{object_told}
use Rattle.type_check.specs.steps.Noted.{first_seen}
use Rattle.type_check.proofs.NotedLaws.{turn}
use Rattle.type_check.proofs.data.objects_faults.Goals as goal

pub loop-object-preserved : goal.loop-object-preserved
loop-object-preserved c =
    let s = c.args.setting.now in
    turn s.file (object_told s) c.args.objects.now c.loop-object.object-index c.object-item.result (first_seen c.args.faults.now) (first_seen c.loop-object.faults) (first_seen c.object_fault.new.faults)
    c.loop-object-test.true c.object-item.is c.loop-object.invariant c.object_fault.ensures
