use Rattle.std.proofs.Common.{ap}
use Rattle.free_scan.specs.declared.first_form.program.Program.{Program}
use Rattle.free_scan.proofs.OneProgram.{one_program}
use Rattle.rename_ref.specs.Meaning.{run}
use Rattle.rename_ref.proofs.first_meaning.one_run_per_text.Goals as goal

pub returns : goal.returns
returns c = λ text first second spells also steps. ap (λ (program : Program). run program steps) (one_program text first second spells also)
