use Rattle.core_prog.proofs.Returning.{blocks_return, values_return}
use Rattle.core_prog.proofs.laws.places_return.Goals as goal

pub returns-clause-statements : goal.returns-clause-statements
returns-clause-statements c = blocks_return

pub returns-clause-expressions : goal.returns-clause-expressions
returns-clause-expressions c = values_return
