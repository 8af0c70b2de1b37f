use Rattle.std.proofs.Common.{◌∙◌}
use Rattle.decl_table.proofs.SeenNames.{turned}
use Rattle.scope_bind.proofs.OccurrenceMeanings.{block_yes, block_no}
use Rattle.scope_bind.proofs.occurrences.block_meaning.Goals as goal

pub returns-then-contains : goal.returns-then-contains
returns-then-contains c =
    block_yes c.args.known.now.files.now c.args.name.now c.contains.result c.block_entity.result
    (c.contains.ensures ∙ turned _ c.args.name ∙ c.requires.known.globals.blocks c.args.name.now) c.if-contains.true c.block_entity.ensures

pub returns-else-contains : goal.returns-else-contains
returns-else-contains c =
    block_no c.args.known.now.files.now c.args.name.now c.contains.result
    (c.contains.ensures ∙ turned _ c.args.name ∙ c.requires.known.globals.blocks c.args.name.now) c.if-contains.false
