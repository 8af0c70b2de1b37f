use Rattle.std.proofs.Common.{ap, ap₂, ◌+◌, ◌∙◌}
use Rattle.scope_bind.proofs.NumberedMeanings.{entity, own_numbered}
use Rattle.scope_bind.proofs.known.Known.own_entity.Goals as goal

pub returns : goal.returns
returns c =
    ap₂ (λ units place. entity (units + place)) c.requires.known.numbering.units c.own_place.ensures.value
    ∙ ap entity (own_numbered c.args.self.now.files.now c.requires.known.trees c.args.scope c.requires.within c.args.name.now)
