use Rattle.plan_store.proofs.PlanFound.{found_in_told}
use Rattle.plan_store.proofs.finding.read_found.Goals as goal

pub returns-in-Ok-found_in-clause-found : goal.returns-in-Ok-found_in-clause-found
returns-in-Ok-found_in-clause-found g c =
    found_in_told (g.S.Store.files c.args.store.now) c.in-Ok.text.items _ (rw c.requires at c.in-Ok.ensures.text) (rw c.deref.ensures.value at c.in-Ok-found_in.ensures.found)
