use Rattle.std.proofs.Common.{sym, ◌∙◌, ap}
use Rattle.name_types.specs.steps.Kinds.{signature_seen}
use Rattle.type_check.specs.steps.Sights as sights
use Rattle.type_check.proofs.SightLaws.{misfits_seen}
use Rattle.type_check.proofs.arguments.misfits.Goals as goal

pub returns : goal.returns
returns c = λ ts same.
    c.first_misfit.ensures ∙ ap (sights.misfits c.args.name (signature_seen c.args.signature.now).formals) same
    ∙ sym (misfits_seen c.args.name (signature_seen c.args.signature.now).formals ts)
