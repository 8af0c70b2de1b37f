use Rattle.free_scan.proofs.OneProgram.{one_program}
use Rattle.free_scan.proofs.first_form.reading.one_program_per_text.Goals as goal

pub returns : goal.returns
returns c = one_program
