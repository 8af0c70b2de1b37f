use Rattle.name_types.proofs.RightSenses.{senses_right}
use Rattle.name_types.proofs.laws.names_are_right.Goals as goal

pub returns : goal.returns
returns c = senses_right
