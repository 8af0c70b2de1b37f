use Rattle.core_sim.proofs.Runs.{blocks_keep_within, values_keep_within}
use Rattle.core_sim.proofs.laws.keeps.Goals as goal

pub returns-clause-statements : goal.returns-clause-statements
returns-clause-statements c = blocks_keep_within

pub returns-clause-expressions : goal.returns-clause-expressions
returns-clause-expressions c = values_keep_within
