use Rattle.std.proofs.Common.{◌∙◌, ap}
use Rattle.scope_bind.specs.steps.Entities.{put_if}
use Rattle.scope_bind.proofs.EntityKeys.{entity_put}
use Rattle.scope_bind.proofs.entities.put_entity.Goals as goal

pub returns-clause-put : goal.returns-clause-put
returns-clause-put c rest long are =
    let at = c.args.at in
    entity_put c.args.known.now.files.now c.args.entity.now rest at c.args.numbers.now c.put_if-3.new.numbers c.unit_number.result c.own_number.result c.name_number.result long are
    c.unit_number.ensures c.own_number.ensures c.name_number.ensures
    (c.put_if-3.ensures ∙ ap (put_if c.name_number.result at) (c.put_if-2.ensures ∙ ap (put_if c.own_number.result at) c.put_if.ensures))
