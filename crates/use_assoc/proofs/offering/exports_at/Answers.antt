use Rattle.use_assoc.proofs.Modules.{one_is}
use Rattle.use_assoc.proofs.offering.exports_at.Goals as goal

pub returns : goal.returns
returns c = one_is c.args.exports.now c.args.number c.index-exports-number.result c.requires c.index-exports-number.is
