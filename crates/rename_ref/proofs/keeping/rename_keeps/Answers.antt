use Rattle.free_scan.proofs.OneProgram.{one_program}
use Rattle.rename_ref.proofs.AcceptedKeeps.{keeping}
use Rattle.rename_ref.proofs.RunRenamed.{renaming_keeps_runs}
use Rattle.rename_ref.proofs.keeping.rename_keeps.Goals as goal

pub returns : goal.returns
returns c = keeping one_program renaming_keeps_runs
