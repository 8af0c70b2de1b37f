use Rattle.std.proofs.Common.{◌∙◌, ap}
use Rattle.std.specs.Prelude.{◌||◌}
use Rattle.ftn_tree.specs.Circles.{expressions_of}
use Rattle.const_value.specs.steps.Measuring.{given}
use Rattle.const_value.specs.steps.Shaping.{bound_told, is_loose}
use Rattle.const_value.specs.steps.Told.{first_seen}
use Rattle.const_value.proofs.GatheredTurns.{inner_turn}
use Rattle.const_value.proofs.StatementTurns.{any_next}
use Rattle.const_value.proofs.shape_faults.bounds_faults.Goals as goal

pub loop-pair-preserved : goal.loop-pair-preserved
loop-pair-preserved c =
    let view = c.args.view.now in
    record {
      told =
          inner_turn (bound_told view.project.now view.file (given view) c.args.of_dummy) expressions_of c.args.pairs.now c.loop-pair.pair-index c.pair-item.result (first_seen c.args.faults.now)
          (first_seen c.loop-pair.faults) (first_seen c.pair_faults.new.faults) c.loop-pair-test.true c.pair-item.is c.loop-pair.invariant.told c.in_ok-one.ensures.told;
      loose =
          any_next (is_loose (given view)) c.args.pairs.now c.loop-pair.pair-index c.pair-item.result c.loop-pair.loose c.either-loose.result c.loop-pair-test.true c.pair-item.is
          c.loop-pair.invariant.loose (c.either-loose.ensures ∙ ap (λ b. c.loop-pair.loose || b) c.in_ok-one.ensures.loose);
    }
