use Rattle.std.proofs.Common.{◌≢◌, get_or, take, All}
use Rattle.module_graph.proofs.search.has_one.Given as goal

abbrev pub invariant-loop-used : goal.invariant-loop-used
invariant-loop-used l = All (λ used. get_or l.numbers used 0 ≢ l.number) (take l.used-index l.list)
