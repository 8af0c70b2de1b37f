use Rattle.rename_ref.proofs.RunRenamed.{renaming_keeps_runs}
use Rattle.rename_ref.proofs.first_meaning.renaming_keeps_runs.Goals as goal

pub returns : goal.returns
returns c = renaming_keeps_runs
