use Rattle.core_sim.proofs.Runs.{blocks_same, values_same, runs_same}
use Rattle.core_sim.proofs.laws.same_units.Goals as goal

pub returns-clause-statements : goal.returns-clause-statements
returns-clause-statements c = blocks_same

pub returns-clause-expressions : goal.returns-clause-expressions
returns-clause-expressions c = values_same

pub returns-clause-runs : goal.returns-clause-runs
returns-clause-runs c = runs_same
