use Rattle.core_sim.proofs.Runs.{alike_within}
use Rattle.core_sim.proofs.Swapped.{runs_within}
use Rattle.core_sim.proofs.laws.alike.Goals as goal

pub returns-clause-calls : goal.returns-clause-calls
returns-clause-calls c = λ pairing old new premises factor enough. runs_within pairing old new premises factor enough

pub returns-clause-names : goal.returns-clause-names
returns-clause-names c = alike_within
