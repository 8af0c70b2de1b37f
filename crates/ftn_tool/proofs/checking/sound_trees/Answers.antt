use Rattle.ftn_tool.proofs.Sizes.{all_small}
use Rattle.ftn_tool.proofs.Trees.{are_trees}
use Rattle.ftn_tool.proofs.checking.sound_trees.Goals as goal

pub read_trees-requires-clause-small : goal.read_trees-requires-clause-small
read_trees-requires-clause-small c = all_small c.args.files.now c.requires

pub take_stages-requires : goal.take_stages-requires
take_stages-requires c =
    rw c.deref.ensures.value (are_trees c.args.edition c.args.files.now c.in_ok-trees.trees.items c.requires (all_small c.args.files.now c.requires) c.in_ok-trees.ensures.trees)
