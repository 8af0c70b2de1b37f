use Rattle.std.proofs.Common.{◌≡◌, ◌∙◌, map, ap, subst, sym}
use Rattle.std.proofs.lemmas.Result.{IfOk-weaker}
use Rattle.ftn_tree.specs.Bindings.{bound_entities}
use Rattle.decl_table.specs.steps.Drafts.{drafted_of}
use Rattle.decl_table.specs.steps.Spelled.{Each, IsNamed}
use Rattle.scope_bind.proofs.NamedEntities.{all_ordered, entities_named}
use Rattle.scope_bind.proofs.entities.all_entities.Goals as goal

pub entities_from-requires : goal.entities_from-requires
entities_from-requires c =
    let files = c.args.known.now.files.now in
    let made = ap (map (drafted_of files)) c.deref-2.ensures.value
    ∙ all_ordered files c.in_ok-found.found.items c.push_all_letters.new.found.items c.push_intrinsics.new.found.items c.deref.result.now c.in_ok-drafts.drafts.items c.in_ok-found.ensures
    c.in_ok-push_all_letters.ensures c.in_ok-push_intrinsics.ensures c.deref.ensures.value c.in_ok-drafts.ensures in
    subst (Each IsNamed) (sym made) (entities_named files c.requires.known.trees)

pub returns : goal.returns
returns c =
    let files = c.args.known.now.files.now in
    let made = ap (map (drafted_of files)) c.deref-2.ensures.value
    ∙ all_ordered files c.in_ok-found.found.items c.push_all_letters.new.found.items c.push_intrinsics.new.found.items c.deref.result.now c.in_ok-drafts.drafts.items c.in_ok-found.ensures
    c.in_ok-push_all_letters.ensures c.in_ok-push_intrinsics.ensures c.deref.ensures.value c.in_ok-drafts.ensures in
    IfOk-weaker c.entities_from.result (λ found. found ≡ map (λ d. d.entity) (map (drafted_of files) c.deref-2.result.now)) (λ found. found ≡ bound_entities files)
    (λ found is. is ∙ ap (map (λ d. d.entity)) made) c.entities_from.ensures
