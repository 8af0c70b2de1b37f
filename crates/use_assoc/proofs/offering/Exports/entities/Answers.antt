use Rattle.std.proofs.Common.{ℕ, List, ap, ◌∙◌}
use Rattle.ftn_base.specs.declared.entity.EntityId.{EntityId}
use Rattle.use_assoc.proofs.offering.Exports.entities.Goals as goal

pub returns : goal.returns
returns c = c.find.ensures ∙ ap (λ (found : List ℕ → List EntityId). found c.args.name.now) c.table.ensures
