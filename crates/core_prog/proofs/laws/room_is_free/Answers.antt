use Rattle.core_prog.proofs.MoreSteps.{room_free, room_free_of_values}
use Rattle.core_prog.proofs.laws.room_is_free.Goals as goal

pub returns-clause-statements : goal.returns-clause-statements
returns-clause-statements c = room_free

pub returns-clause-expressions : goal.returns-clause-expressions
returns-clause-expressions c = room_free_of_values
