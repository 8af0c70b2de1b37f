use Rattle.name_types.proofs.OutsideUnits.{outside_is}
use Rattle.name_types.proofs.bodies.outside_candidate.Goals as goal

pub returns : goal.returns
returns c =
    outside_is c.args.files.now c.requires.trees c.args.number _ _ _ _ _ _ c.unit_at-body.ensures.unit c.unit_at-body.ensures.host c.kind_of-kind.ensures
    c.is_outside.ensures c.under_if.ensures c.scope_name.ensures
