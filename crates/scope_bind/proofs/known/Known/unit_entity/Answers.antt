use Rattle.std.proofs.Common.{ap}
use Rattle.scope_bind.proofs.NumberedMeanings.{entity, unit_numbered}
use Rattle.scope_bind.proofs.known.Known.unit_entity.Goals as goal

pub returns : goal.returns
returns c = ap entity (unit_numbered c.args.self.now.files.now c.requires.known.trees c.args.scope c.requires.within)
