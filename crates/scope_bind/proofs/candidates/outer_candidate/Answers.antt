use Rattle.scope_bind.proofs.NamedUnits.{outer_is}
use Rattle.scope_bind.proofs.candidates.outer_candidate.Goals as goal

pub returns : goal.returns
returns c =
    outer_is c.args.files.now c.requires.trees c.args.sort c.args.number _ _ _ _ _ _ c.unit_at-body.ensures.unit c.unit_at-body.ensures.host c.kind_of-kind.ensures
    c.counts_as.ensures c.under_if.ensures c.scope_name.ensures
