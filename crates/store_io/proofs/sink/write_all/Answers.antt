use Rattle.std.proofs.Common.{arith}
use Rattle.store_io.proofs.Taking.{takes_more, takes_within}
use Rattle.store_io.proofs.sink.write_all.Goals as goal

pub parts-preserved : goal.parts-preserved
parts-preserved g c = record {
  within = takes_within c.args.text.now c.parts.at c.in_ok-count.count c.parts.invariant.within c.in_ok-count.ensures.taken.0;
  taken = takes_more c.args.text.now c.parts.at c.in_ok-count.count _ _ _ c.parts.invariant.taken c.in_ok-count.ensures.taken.1;
  later = omega arith;
  wants_later = omega arith;
}
