use Rattle.ftn_tree.specs.Operations as values
use Rattle.ftn_interp.proofs.operators.binary.Goals as goal

pub returns : goal.returns
returns c = c.placed.ensures (values.binary_of c.args.operator c.args.left c.args.right) c.binary.ensures
