use Rattle.std.proofs.Common.{sym, ◌∙◌, ap}
use Rattle.name_types.specs.steps.Kinds.{signature_seen}
use Rattle.type_check.specs.steps.Sights as sights
use Rattle.type_check.proofs.SightLaws.{undefinables_seen}
use Rattle.type_check.proofs.arguments.undefinables.Goals as goal

pub returns : goal.returns
returns c = λ ts same.
    c.first_undefinable.ensures ∙ ap (sights.undefinables (signature_seen c.args.signature.now).formals) same
    ∙ sym (undefinables_seen (signature_seen c.args.signature.now).formals ts)
