use Rattle.scope_bind.proofs.NamedUnits.{inner_is}
use Rattle.scope_bind.proofs.candidates.inner_candidate.Goals as goal

pub returns : goal.returns
returns c =
    inner_is c.args.files.now c.args.number _ _ _ _ _ c.unit_at-body.ensures.unit c.unit_at-body.ensures.body c.unit_at-body.ensures.host c.under_host.ensures c.scope_name.ensures
