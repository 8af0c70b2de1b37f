use Rattle.plan_store.proofs.Recovered.{recoveries_complete}
use Rattle.plan_store.proofs.recoveries.recoveries_complete.Goals as goal

pub returns : goal.returns
returns c = recoveries_complete
