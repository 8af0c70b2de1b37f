use Rattle.std.proofs.Common.{ap, ◌∙◌}
use Rattle.ftn_tree.specs.declared.table.Extent.{Extent}
use Rattle.ftn_tree.specs.Scopes.{name_at}
use Rattle.scope_bind.proofs.Owning.{name_told}
use Rattle.scope_bind.proofs.owned.name_placed.Goals as goal

pub returns-clause-pairs : goal.returns-clause-pairs
returns-clause-pairs c =
    let files = c.args.known.now.files.now in
    name_told files c.args.scope c.args.token c.name_at-name.result.now c.own_begin.result c.own_entity.result
    (c.name_at-name.ensures ∙ ap (λ (u : Extent). name_at files u.file c.args.token) c.unit.ensures) c.own_begin.ensures c.own_entity.ensures
