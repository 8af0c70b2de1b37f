use Rattle.unit_parse.proofs.Apart.{apart}
use Rattle.unit_parse.proofs.laws.statements_are_apart.Goals as goal

pub returns : goal.returns
returns c = apart
