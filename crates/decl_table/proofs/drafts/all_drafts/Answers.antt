use Rattle.std.proofs.Common.{◌++◌, ◌∙◌, ap, map}
use Rattle.ftn_tree.specs.DeclaredEntities as spec
use Rattle.decl_table.specs.steps.Blanks.{blanks_of}
use Rattle.decl_table.specs.steps.Drafts.{drafted_of}
use Rattle.decl_table.proofs.AllDrafts.{all_are}
use Rattle.decl_table.proofs.drafts.all_drafts.Goals as goal

pub returns : goal.returns
returns c =
    let files = c.args.files.now in
    let blank = c.in_ok-push_blank.ensures
    ∙ ap (λ es. map (drafted_of files) c.push_blocks.new.found.items ++ spec.draft_blank files (blanks_of files es)) (c.deref-2.ensures.value ∙ c.in_ok-units.ensures) in
    all_are files c.new-found.result.items c.push_units.new.found.items c.push_names.new.found.items c.push_blocks.new.found.items c.push_blank.new.found.items
    c.new-found.ensures.items c.in_ok-push_units.ensures c.in_ok-push_names.ensures c.in_ok-push_blocks.ensures blank
