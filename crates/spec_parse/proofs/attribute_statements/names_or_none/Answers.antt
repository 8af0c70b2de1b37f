use Rattle.expr_parse.specs.steps.Input.{name}
use Rattle.spec_parse.proofs.attribute_statements.names_or_none.Goals as goal

pub returns : goal.returns
returns c = c.items_or_none.ensures name (λ alloc old new result read. read.1)
