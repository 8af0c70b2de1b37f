use Rattle.std.proofs.Common.{refl}
use Rattle.const_value.proofs.AllValues as listed
use Rattle.const_value.proofs.entity_values.values.Goals as goal

pub returns-clause-units : goal.returns-clause-units
returns-clause-units c =
    listed.units_known c.args.files.now c.requires.trees c.requires.declared c.requires.names (c.in_ok-known.ensures.sound refl) c.args.bound.now c.requires.bound c.in_ok-made.made c.in_ok-made.ensures.values
