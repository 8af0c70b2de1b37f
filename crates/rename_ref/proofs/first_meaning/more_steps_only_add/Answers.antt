use Rattle.rename_ref.proofs.RunLonger.{more_steps_only_add}
use Rattle.rename_ref.proofs.first_meaning.more_steps_only_add.Goals as goal

pub returns : goal.returns
returns c = more_steps_only_add
