use Rattle.std.proofs.Common.{◌∙◌}
use Rattle.use_assoc.proofs.Modules.{at_is}
use Rattle.use_assoc.proofs.table.exports_of.Goals as goal

pub returns : goal.returns
returns c = c.as_slice.ensures.value ∙ at_is (λ pairs. pairs.items) c.args.exports.now c.args.number c.index-exports-number.result c.requires c.index-exports-number.is
