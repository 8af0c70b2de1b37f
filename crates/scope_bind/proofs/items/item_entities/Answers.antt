use Rattle.std.proofs.Common.{◌≡◌, ◌<◌, Some, [], length, sym, ap, subst, ◌∙◌}
use Rattle.std.proofs.lemmas.List.{get_or_default}
use Rattle.std.proofs.lemmas.Option.{unwrap_or-slice_get}
use Rattle.ftn_base.specs.Accessible.{entities_of}
use Rattle.ftn_tree.specs.Extents.{layer_at}
use Rattle.decl_table.specs.steps.Spelled.{IsSpelled}
use Rattle.scope_bind.specs.steps.Items.{source_of, items_at}
use Rattle.scope_bind.specs.steps.Uses.{module_token_at, used_by_token}
use Rattle.scope_bind.proofs.ItemSources.{some_used, source_named, used_less}
use Rattle.scope_bind.proofs.items.item_entities.Goals as goal

pub name_of-requires : goal.name_of-requires
name_of-requires c =
    let files = c.args.known.now.files.now in
    let there : Some c.in-Some-copied.source ≡ source_of c.args.token (items_at (layer_at files c.args.file c.args.statement)) =
    sym c.in-Some-copied.is ∙ c.copied.ensures ∙ c.get.ensures.value ∙ c.requires.items.sources c.args.token in
    subst IsSpelled (sym c.name_at.ensures) (source_named files c.requires.known.trees c.args.file c.args.statement c.args.token c.in-Some-copied.source there)

pub bounds-exported-number : goal.bounds-exported-number
bounds-exported-number c =
    let files = c.args.known.now.files.now in
    let used : Some c.in-Some.number ≡ used_by_token files c.args.file (module_token_at files c.args.file c.args.statement) = sym c.in-Some.is ∙ c.requires.items.number in
    used_less files c.args.file (module_token_at files c.args.file c.args.statement) c.in-Some.number c.args.exported.now used c.requires.exported

pub returns : goal.returns
returns c =
    let files = c.args.known.now.files.now in
    let exported = c.args.exported.now in
    let there : Some c.in-Some-copied.source ≡ source_of c.args.token (items_at (layer_at files c.args.file c.args.statement)) =
    sym c.in-Some-copied.is ∙ c.copied.ensures ∙ c.get.ensures.value ∙ c.requires.items.sources c.args.token in
    let used : Some c.in-Some.number ≡ used_by_token files c.args.file (module_token_at files c.args.file c.args.statement) = sym c.in-Some.is ∙ c.requires.items.number in
    let less : c.in-Some.number < length exported = used_less files c.args.file (module_token_at files c.args.file c.args.statement) c.in-Some.number exported used c.requires.exported in
    c.entities.ensures
    ∙ ap (entities_of c.index-exported-number.result) (c.in_ok-name.ensures ∙ c.name_at.ensures)
    ∙ some_used files c.args.file c.args.statement c.args.token c.in-Some.number c.in-Some-copied.source exported c.index-exported-number.result used there c.requires.exported
    (c.index-exported-number.is ∙ get_or_default exported c.in-Some.number c.index-exported-number.result [] less ∙ sym (unwrap_or-slice_get exported c.in-Some.number []))
