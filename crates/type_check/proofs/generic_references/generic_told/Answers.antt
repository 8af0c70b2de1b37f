use Rattle.std.proofs.Common.{sym, ◌∙◌, ap}
use Rattle.name_types.specs.steps.Senses.{specifics_by}
use Rattle.type_check.specs.steps.Sights as sights
use Rattle.type_check.proofs.ChoiceLaws.{generic_told_seen}
use Rattle.type_check.proofs.generic_references.generic_told.Goals as goal

pub returns : goal.returns
returns c = λ ts same.
    let specifics = specifics_by c.args.signatures.now c.args.specifics.now in
    c.choice_told.ensures ∙ ap (sights.choice_told c.args.name) (c.choose.ensures ∙ ap (sights.choice specifics) same) ∙ sym (generic_told_seen c.args.name specifics ts)
