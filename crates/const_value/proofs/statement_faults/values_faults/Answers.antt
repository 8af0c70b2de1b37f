use Rattle.ftn_tree.specs.ConstantFaults.{names_of_value}
use Rattle.const_value.specs.steps.Telling.{name_told}
use Rattle.const_value.specs.steps.Told.{first_seen}
use Rattle.const_value.proofs.GatheredTurns.{inner_turn}
use Rattle.const_value.proofs.statement_faults.values_faults.Goals as goal

pub loop-value-preserved : goal.loop-value-preserved
loop-value-preserved c =
    inner_turn (name_told c.args.view.now) names_of_value c.args.values.now c.loop-value.value-index c.value-item.result (first_seen c.args.faults.now) (first_seen c.loop-value.faults) (first_seen c.value_faults.new.faults) c.loop-value-test.true
    c.value-item.is c.loop-value.invariant c.value_faults.ensures
