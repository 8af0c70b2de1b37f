use Rattle.std.proofs.Common.{◌∙◌, ap}
use Rattle.ftn_tree.specs.ConstantFaults as constants
use Rattle.ftn_tree.specs.DataTypes as data_types
use Rattle.type_check.specs.steps.Noted.{first_seen, noted}
use Rattle.type_check.specs.steps.Stated.{designator_told, noted_each}
use Rattle.type_check.proofs.FineStatements.{none_here}
use Rattle.type_check.proofs.StatedTurns.{groups_turn}
use Rattle.type_check.proofs.statements.groups_faults.Goals as goal

pub loop-group-preserved : goal.loop-group-preserved
loop-group-preserved c = λ files e right none.
    let s = c.args.setting.now in
    groups_turn files e s c.args.groups.now c.loop-group.group-index c.group-item.result (first_seen c.args.faults.now) (first_seen c.loop-group.faults) (first_seen c.group_faults.new.faults)
    c.loop-group-test.true c.group-item.is (c.loop-group.invariant files e right none)
    (c.group_faults.ensures files e right (none_here (constants.group_told files e.file) c.args.groups.now c.loop-group.group-index c.group-item.result c.loop-group-test.true c.group-item.is none)
    ∙ ap (λ o. noted e.file o (data_types.group_told files e c.group-item.result))
    (c.designators_faults.ensures ∙ ap (λ ds. noted_each s.file (designator_told s) (first_seen c.loop-group.faults) ds) c.as_slice.ensures))
