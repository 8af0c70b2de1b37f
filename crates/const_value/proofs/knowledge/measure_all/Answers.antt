use Rattle.std.proofs.Common.{fold, get_or, length}
use Rattle.std.proofs.lemmas.List.{get_or_default}
use Rattle.const_value.specs.steps.Knowing.{measure_constant, measure_other, nothing, seen}
use Rattle.const_value.proofs.KnowingTurns.{nothing_long, other_long, turn}
use Rattle.const_value.proofs.knowledge.measure_all.Goals as goal

pub constants-init : goal.constants-init
constants-init c = record { all = c.in_ok-all.ensures; long = nothing_long c.args.project.now (seen c.in_ok-all.all) c.in_ok-all.ensures }

pub others-preserved : goal.others-preserved
others-preserved c =
    let p = c.args.project.now in
    let circles = c.args.circles.now in
    let items = c.deref-name-items-2.result.now in
    let i = c.others.name-index in
    let n = get_or items i 0 in
    record {
      all = turn (measure_other p circles) (fold (measure_constant p circles) (nothing p) circles.order.items) (seen c.others.all) (seen c.measure_other.new.self) items i n c.others-test.true
          (get_or_default items i 0 n c.others-test.true) c.others.invariant.all c.in_ok-measure_other.ensures;
      long = other_long p circles (seen c.others.all) (seen c.measure_other.new.self) n (length p.names.items) c.others.invariant.long c.in_ok-measure_other.ensures;
    }
