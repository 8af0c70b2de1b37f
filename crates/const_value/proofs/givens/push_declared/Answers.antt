use Rattle.std.proofs.Common.{◌∙◌, ◌++◌, [], Option, ap}
use Rattle.std.specs.List.{cons_option}
use Rattle.ftn_tree.specs.declared.value.Given.{Given}
use Rattle.const_value.specs.steps.Giving.{declared_by}
use Rattle.const_value.specs.steps.Telling.{sight_of}
use Rattle.const_value.proofs.CircleTurns.{some_more}
use Rattle.const_value.proofs.givens.push_declared.Goals as goal

pub loop-declared-preserved : goal.loop-declared-preserved
loop-declared-preserved c =
    some_more (declared_by (sight_of c.args.view.now)) c.args.entities.now c.loop-declared.declared-index c.declared-item.result c.args.found.now.items c.loop-declared.found.items c.push_if.new.found.items
    c.loop-declared-test.true c.declared-item.is c.loop-declared.invariant
    (c.in_ok-push_if.ensures ∙ ap (λ (o : Option Given). c.loop-declared.found.items ++ cons_option o []) c.in_ok-given.ensures)
