use Rattle.core_prog.proofs.Passing.{blocks_pass, values_pass}
use Rattle.core_prog.proofs.laws.time_passes.Goals as goal

pub returns-clause-statements : goal.returns-clause-statements
returns-clause-statements c = blocks_pass

pub returns-clause-expressions : goal.returns-clause-expressions
returns-clause-expressions c = values_pass
