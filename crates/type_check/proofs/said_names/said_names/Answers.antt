use Rattle.std.proofs.Common.{ap}
use Rattle.ftn_tree.specs.Sayings.{Saying}
use Rattle.decl_table.specs.steps.Seen.{has_come}
use Rattle.type_check.specs.steps.SaidNames.{lent}
use Rattle.type_check.proofs.SaidTurns.{both_turn}
use Rattle.type_check.proofs.said_names.said_names.Goals as goal

pub loop-s-preserved : goal.loop-s-preserved
loop-s-preserved c =
    both_turn c.args.said.now c.loop-s.s-index c.s-item.result c.loop-s-test.true c.s-item.is _ (ap (λ (s : Saying). s.name) c.s.view_is) (lent c.loop-s.names.items) (lent c.push_first.new.names.items) (has_come c.loop-s.seen) (has_come c.push_first.new.seen) c.loop-s.invariant.0 c.loop-s.invariant.1
    c.in_ok-push_first.ensures.names c.in_ok-push_first.ensures.put
