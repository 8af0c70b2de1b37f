use Rattle.ftn_tree.proofs.OperatorLaws.{binary_told, unary_told}
use Rattle.ftn_tree.proofs.laws.operators_are_those_of_tokens.Goals as goal

pub returns : goal.returns
returns c = record {
  binary = binary_told;
  unary = unary_told;
}
