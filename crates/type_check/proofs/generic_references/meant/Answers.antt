use Rattle.std.proofs.Common.{sym, ◌∙◌, ap}
use Rattle.name_types.specs.steps.Senses.{specifics_by}
use Rattle.type_check.specs.steps.Sights as sights
use Rattle.type_check.proofs.ChoiceLaws.{meant_seen}
use Rattle.type_check.proofs.generic_references.meant.Goals as goal

pub returns : goal.returns
returns c = λ ts same.
    let specifics = specifics_by c.args.signatures.now c.args.specifics.now in
    c.meant_by.ensures ∙ ap sights.meant (c.choose.ensures ∙ ap (sights.choice specifics) same) ∙ sym (meant_seen specifics ts)
