use Rattle.core_prog.proofs.MoreSteps.{blocks_add, values_add, runs_go_on}
use Rattle.core_prog.proofs.laws.more_steps_only_add.Goals as goal

pub returns-clause-statements : goal.returns-clause-statements
returns-clause-statements c = blocks_add

pub returns-clause-expressions : goal.returns-clause-expressions
returns-clause-expressions c = values_add

pub returns-clause-runs : goal.returns-clause-runs
returns-clause-runs c = runs_go_on
