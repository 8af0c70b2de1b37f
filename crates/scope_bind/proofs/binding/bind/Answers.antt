use Rattle.std.proofs.Common.{◌∙◌, refl}
use Rattle.scope_bind.proofs.FirstFaults.{bound_is, sound_told}
use Rattle.scope_bind.proofs.binding.bind.Goals as goal

pub returns-clause-bound : goal.returns-clause-bound
returns-clause-bound c = c.bound_with.ensures ∙ bound_is c.args.files.now c.args.tables c.in_ok-found.found c.requires.tables c.in_ok-found.ensures.found

pub returns-clause-sound : goal.returns-clause-sound
returns-clause-sound c = λ ok. sound_told c.args.files.now (c.in_ok-found.ensures.none refl)
