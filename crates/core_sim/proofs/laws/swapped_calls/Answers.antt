use Rattle.core_sim.proofs.Swapped.{blocks_within, values_within}
use Rattle.core_sim.proofs.laws.swapped_calls.Goals as goal

pub returns-clause-statements : goal.returns-clause-statements
returns-clause-statements c = λ pairing old new premises factor enough. blocks_within pairing old new premises factor enough

pub returns-clause-expressions : goal.returns-clause-expressions
returns-clause-expressions c = λ pairing old new premises factor enough. values_within pairing old new premises factor enough
