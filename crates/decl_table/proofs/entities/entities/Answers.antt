use Rattle.std.proofs.Common.{◌≡◌, ◌∙◌, ap, sym, map, subst}
use Rattle.std.proofs.lemmas.Result.{IfOk-weaker}
use Rattle.ftn_tree.specs.DeclaredEntities.{entities_of}
use Rattle.decl_table.specs.steps.Drafts.{drafted_of}
use Rattle.decl_table.specs.steps.Spelled.{Each, IsNamed}
use Rattle.decl_table.proofs.SpelledDrafts.{all_spelled}
use Rattle.decl_table.proofs.entities.entities.Goals as goal

pub entities_from-requires : goal.entities_from-requires
entities_from-requires c =
    let files = c.args.files.now in
    let made = ap (map (drafted_of files)) c.deref.ensures.value ∙ c.in_ok-drafts.ensures in
    subst (Each IsNamed) (sym made) (all_spelled files c.requires.trees)

pub returns : goal.returns
returns c =
    let files = c.args.files.now in
    let made = ap (map (drafted_of files)) c.deref.ensures.value ∙ c.in_ok-drafts.ensures in
    IfOk-weaker c.entities_from.result (λ found. found ≡ map (λ d. d.entity) (map (drafted_of files) c.deref.result.now)) (λ found. found ≡ entities_of files)
    (λ found is. is ∙ ap (map (λ d. d.entity)) made) c.entities_from.ensures
