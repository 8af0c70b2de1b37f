use Rattle.std.proofs.Common.{◌≢◌, get_or}
use Rattle.std.proofs.lemmas.List.Elements.{All-more}
use Rattle.module_graph.proofs.search.has_one.Goals as goal

pub loop-used-preserved : goal.loop-used-preserved
loop-used-preserved c =
    All-more (λ used. get_or c.args.numbers.now used 0 ≢ c.args.number) c.args.list.now c.loop-used.used-index 0 c.loop-used-test.true c.loop-used.invariant c.if-numbers-used.false
