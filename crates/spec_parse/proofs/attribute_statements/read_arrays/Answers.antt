use Rattle.spec_parse.specs.steps.Attributes.{array}
use Rattle.spec_parse.proofs.attribute_statements.read_arrays.Goals as goal

pub returns : goal.returns
returns c = c.after_colons.ensures array (λ alloc old new result read. read.1)
