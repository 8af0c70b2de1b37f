use Rattle.std.proofs.Common.{map, refl}
use Rattle.const_value.specs.steps.Giving.{fits_from, supplies_from}
use Rattle.const_value.specs.steps.GivingSeen.{supply_seen}
use Rattle.const_value.specs.steps.Telling.{sight_of}
use Rattle.const_value.proofs.GivenTurns.{rowed_all, supplies_pushed, values_fit_more}
use Rattle.const_value.proofs.givens.supplies_of.Goals as goal

pub loop-value-preserved : goal.loop-value-preserved
loop-value-preserved c =
    let s = sight_of c.args.view.now in
    let both =
    supplies_pushed s c.args.values.now c.loop-value.value-index c.loop-value.from c.in-Some.end c.value-item.result c.repeat_by-count.result (supplies_from s 0 c.args.values.now) c.loop-value.supplies.items
    c.push.new.self.items _ c.in_ok-push.ensures.items refl c.loop-value-test.true c.value-item.is c.repeat_by-count.ensures c.in-Some.ensures.0 c.in-Some.ensures.1 c.loop-value.invariant.same
    c.loop-value.invariant.rowed in
    record {
      same = both.same;
      fits = values_fit_more s c.args.values.now c.loop-value.value-index c.loop-value.from c.in-Some.end c.value-item.result c.repeat_by-count.result (fits_from s 0 c.args.values.now) c.loop-value-test.true
          c.value-item.is c.repeat_by-count.ensures c.in-Some.ensures.0 c.in-Some.ensures.1 c.loop-value.invariant.fits;
      rowed = both.rowed;
    }

pub returns-clause-rowed : goal.returns-clause-rowed
returns-clause-rowed c = rowed_all 0 (map supply_seen c.loop-value.supplies.items) c.loop-value.from c.loop-value.invariant.rowed
