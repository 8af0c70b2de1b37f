use Rattle.decl_table.proofs.SpelledDrafts.{each_at}
use Rattle.decl_table.proofs.entities.entities_from.Goals as goal

pub entity_of-requires : goal.entity_of-requires
entity_of-requires c = each_at c.args.files.now c.args.drafts.now c.loop-draft.draft-index _ c.loop-draft-test.true c.requires
