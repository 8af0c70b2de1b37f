use Rattle.unit_parse.proofs.OneTree.{one_statement}
use Rattle.unit_parse.proofs.laws.one_statement.Goals as goal

pub returns : goal.returns
returns c = one_statement
