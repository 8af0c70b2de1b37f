use Rattle.core_prog.proofs.MoreSteps.{one_run}
use Rattle.core_prog.proofs.laws.a_run_is_one.Goals as goal

pub returns : goal.returns
returns c = one_run
