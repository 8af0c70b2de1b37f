use Rattle.std.proofs.Common.{ap, ◌∙◌}
use Rattle.std.specs.Option.{unwrap_or}
use Rattle.ftn_tree.specs.Scopes.{name_token}
use Rattle.scope_bind.proofs.Owning.{inner_told, none_told}
use Rattle.scope_bind.proofs.owned.inner_placed.Goals as goal

pub returns-then-not-is_number-clause-pairs : goal.returns-then-not-is_number-clause-pairs
returns-then-not-is_number-clause-pairs c =
    none_told c.args.known.now.files.now c.args.scope c.args.token c.requires.known.trees c.requires.within c.args.inner c.host.result c.is_number.result c.host.ensures c.is_number.ensures c.if-not-is_number.true

pub returns-clause-pairs : goal.returns-clause-pairs
returns-clause-pairs c =
    let files = c.args.known.now.files.now in
    inner_told files c.args.scope c.args.token c.requires.known.trees c.requires.within c.args.inner c.host.result c.is_number.result c.unwrap_or.result c.unit_entity.result c.host.ensures c.is_number.ensures c.if-not-is_number.false
    (c.unwrap_or.ensures ∙ ap (λ o. unwrap_or o 0) (c.name_token.ensures ∙ ap (name_token files) c.unit.ensures)) c.unit_entity.ensures
