use Rattle.spec_parse.specs.steps.Attributes.{save_item}
use Rattle.spec_parse.proofs.attribute_statements.read_save_items.Goals as goal

pub returns : goal.returns
returns c = c.items_or_none.ensures save_item (λ alloc old new result read. read.1)
