use Rattle.std.proofs.Common.{◌++◌, ◌∙◌, ap, List}
use Rattle.ftn_tree.specs.declared.unit.Unit.{Unit as UnitTree}
use Rattle.ftn_tree.specs.Around.{units_around}
use Rattle.ftn_tree.proofs.AroundLemmas.{pushed}
use Rattle.ftn_tree.proofs.around.+around.Goals as goal

pub push_unit-returns-in_ok-push : goal.push_unit-returns-in_ok-push
push_unit-returns-in_ok-push t c =
    pushed c.args.statement c.args.unit.now c.args.into.now.items c.push_around.new.into.items c.push.new.self.items c.if-unit-statement.true c.if-statement-unit.true
    (c.in_ok-push_around.ensures ∙ ap (λ (units : List UnitTree). c.args.into.now.items ++ units_around units c.args.statement) c.as_slice.ensures) c.in_ok-push.ensures.items
