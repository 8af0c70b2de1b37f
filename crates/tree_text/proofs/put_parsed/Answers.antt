use Rattle.std.proofs.Common.{subst}
use Rattle.ftn_base.specs.declared.name.Edition.TheVariants as editions
use Rattle.ftn_tree.specs.FileFaults.{IsFileTree}
use Rattle.ftn_tree.specs.declared.token.Tokens.{Tokens}
use Rattle.tree_text.proofs.OneFile.{one_tree}
use Rattle.tree_text.proofs.put_parsed.Goals as goal

pub put_tree-requires : goal.put_tree-requires
put_tree-requires c =
    one_tree editions.F90 c.args.text.now c.in-Ok.tree c.requires.short
    (c.requires.sound, subst (λ (t : Tokens). IsFileTree t c.in-Ok.tree) c.requires.read c.in-Ok.ensures.tree)
