use Rattle.std.proofs.Common.{ap, sym, ◌∙◌}
use Rattle.ftn_tree.specs.declared.mention.Role.{Role}
use Rattle.ftn_tree.specs.declared.table.Extent.{Extent}
use Rattle.ftn_tree.specs.Bindings.{keys_at, meaning_by}
use Rattle.scope_bind.specs.steps.Globals.{unit_at}
use Rattle.scope_bind.specs.steps.Items.{entities_at}
use Rattle.scope_bind.specs.steps.Meaning.{numbered}
use Rattle.scope_bind.proofs.OccurrenceMeanings.{first_meaning, several_meaning}
use Rattle.scope_bind.proofs.occurrences.meaning_by.Goals as goal

pub returns-in_ok-item_entities-in-Source : goal.returns-in_ok-item_entities-in-Source
returns-in_ok-item_entities-in-Source c =
    let files = c.args.known.now.files.now in
    let e = unit_at files c.args.scope in
    let m = c.args.mention.now in
    c.used_meaning.ensures
    ∙ several_meaning files c.in_ok-item_entities-in-Source.field-0.now (keys_at files e c.args.statement m)
    (c.in_ok-item_entities-in-Source.ensures ∙ ap (λ (x : Extent). entities_at files x.file c.args.statement m.token) c.unit-unit.ensures)
    ∙ ap (λ (r : Role). numbered files (meaning_by r files e c.args.statement m)) (sym c.in-Source.is)

pub returns-in_ok-item_entities-in-Local : goal.returns-in_ok-item_entities-in-Local
returns-in_ok-item_entities-in-Local c =
    let files = c.args.known.now.files.now in
    let e = unit_at files c.args.scope in
    let m = c.args.mention.now in
    c.local_meaning.ensures
    ∙ first_meaning files c.in_ok-item_entities-in-Local.field-0.now (keys_at files e c.args.statement m)
    (c.in_ok-item_entities-in-Local.ensures ∙ ap (λ (x : Extent). entities_at files x.file c.args.statement m.token) c.unit-unit.ensures)
    ∙ ap (λ (r : Role). numbered files (meaning_by r files e c.args.statement m)) (sym c.in-Local.is)
