use Rattle.std.proofs.Common.{ap, ap₂, ◌∙◌}
use Rattle.std.specs.List.{flat_map}
use Rattle.std.proofs.lemmas.List.{take_all}
use Rattle.ftn_tree.specs.declared.table.Extent.{Extent}
use Rattle.ftn_tree.specs.Extents.{layer_at}
use Rattle.ftn_tree.specs.Meanings.{use_at}
use Rattle.ftn_tree.specs.Scopes.{own_statements}
use Rattle.decl_table.specs.steps.Following.{own_by}
use Rattle.decl_table.proofs.OwnStatements.{own_are}
use Rattle.scope_bind.specs.steps.Globals.{unit_at}
use Rattle.scope_bind.proofs.Units.{unit_there}
use Rattle.scope_bind.proofs.uses.use_list.Goals as goal

pub returns : goal.returns
returns c =
    let files = c.args.known.now.files.now in
    let scope = c.args.scope in
    let e = unit_at files scope in
    let own = c.deref-statement-items.ensures.value ∙ c.in_ok-own.ensures ∙ ap₂ (own_by scope) c.unit-unit.ensures (c.deref.ensures.value ∙ c.requires.known.scoping.rows)
    ∙ own_are files c.requires.known.trees scope e (unit_there files scope c.requires.within) in
    c.loop-statement.invariant
    ∙ ap (flat_map (λ statement. use_at files c.unit-unit.result.file (layer_at files c.unit-unit.result.file statement)))
    (take_all c.loop-statement.statement-index c.deref-statement-items.result.now c.loop-statement-test.false ∙ own)
    ∙ ap (λ (u : Extent). flat_map (λ statement. use_at files u.file (layer_at files u.file statement)) (own_statements files e)) c.unit-unit.ensures
