use Rattle.ftn_tree.specs.Operations as values
use Rattle.ftn_interp.proofs.operators.unary.Goals as goal

pub returns : goal.returns
returns c = c.placed.ensures (values.unary_of c.args.operator c.args.arg) c.unary.ensures
