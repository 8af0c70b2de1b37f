use Rattle.std.proofs.Common.{◌≡◌, ◌++◌, ◌∙◌, [], ap, map}
use Rattle.std.proofs.lemmas.Result.{IfOk-weaker}
use Rattle.ftn_tree.specs.DeclaredEntities.{draft_block}
use Rattle.ftn_tree.specs.GlobalNames.{firsts_after, blocks}
use Rattle.decl_table.specs.steps.Blocks.{global_of, names_of}
use Rattle.decl_table.specs.steps.Drafts.{drafted_of}
use Rattle.decl_table.proofs.FirstBlocks.{all_given}
use Rattle.decl_table.proofs.blocks.push_blocks.Goals as goal

pub returns : goal.returns
returns c =
    let files = c.args.files.now in
    let start = map (drafted_of files) c.args.found.now.items in
    let names = c.deref.ensures.value ∙ c.in_ok-push_names.ensures ∙ ap (λ xs. xs ++ names_of files c.args.units.now) c.new-names.ensures.items in
    IfOk-weaker c.push_firsts.result
    (λ _. map (drafted_of files) c.push_firsts.new.found.items ≡ start ++ map (draft_block files) (firsts_after [] (map (global_of files) c.deref.result.now)))
    (λ _. map (drafted_of files) c.push_firsts.new.found.items ≡ start ++ map (draft_block files) (blocks files))
    (λ _ is. is ∙ ap (λ gs. start ++ map (draft_block files) (firsts_after [] gs)) (ap (map (global_of files)) names ∙ all_given files c.args.units.now c.requires))
    c.push_firsts.ensures
