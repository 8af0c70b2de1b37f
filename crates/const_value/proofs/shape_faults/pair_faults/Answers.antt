use Rattle.const_value.specs.steps.Measuring.{given}
use Rattle.const_value.specs.steps.Shaping.{bound_told}
use Rattle.const_value.specs.steps.Told.{first_seen}
use Rattle.const_value.proofs.StatementTurns.{both_noted}
use Rattle.const_value.proofs.shape_faults.pair_faults.Goals as goal

pub returns-clause-told : goal.returns-clause-told
returns-clause-told c =
    let view = c.args.view.now in
    both_noted (bound_told view.project.now view.file (given view) c.args.of_dummy) c.args.pair.now.low c.args.pair.now.high (first_seen c.args.faults.now) (first_seen c.faults_if_written.new.faults)
    (first_seen c.faults_if_written-2.new.faults) c.in_ok-low.ensures.told c.in_ok-high.ensures.told
