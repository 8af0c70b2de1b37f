use Rattle.std.proofs.Common.{length}
use Rattle.const_value.proofs.CircleTurns.{used_within}
use Rattle.const_value.proofs.circles.Circles.is_circular.Goals as goal

pub leads_back-requires-clause-used : goal.leads_back-requires-clause-used
leads_back-requires-clause-used c =
    let self = c.args.self.now in
    used_within self.uses.items c.args.name c.loop-used.used-index (length self.labels.items) c.index.result.now c.deref-used-items.result.now c.requires.whole.known c.requires.name c.index.ensures
    c.deref-used-items.ensures.value c.loop-used-test.true c.requires.whole.labels
