use Rattle.common_match.proofs.Same.{bounds_decide}
use Rattle.common_match.proofs.lists.is_bounded_alike.Goals as goal

pub returns : goal.returns
returns c = bounds_decide c.args.a.now c.args.b.now c.pairs.result.now c.pairs-2.result.now c.eq.result c.pairs.ensures c.pairs-2.ensures c.eq.ensures
