use Rattle.spec_parse.specs.steps.Declaring.{entity}
use Rattle.spec_parse.proofs.declare.read_entities.Goals as goal

pub returns : goal.returns
returns c = c.after_colons.ensures entity (λ alloc old new result read. read.1)
