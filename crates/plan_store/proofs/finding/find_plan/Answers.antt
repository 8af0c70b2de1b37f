use Rattle.std.proofs.Common.{◌≡◌, false, sym, ◌∙◌, rules}
use Rattle.plan_store.proofs.PlanFound.{not_listed}
use Rattle.plan_store.proofs.finding.find_plan.Goals as goal

pub returns-then-not-is_listed-clause-found : goal.returns-then-not-is_listed-clause-found
returns-then-not-is_listed-clause-found g c =
    let unlisted : c.is_listed.result ≡ false = search rules in
    not_listed (g.S.Store.files c.args.store.now) c.in-Ok.names.items c.in-Ok.ensures.names (rw (c.requires, c.deref.ensures.value) at (sym c.is_listed.ensures ∙ unlisted))
