use Rattle.ftn_tree.specs.Intrinsics as values
use Rattle.ftn_interp.proofs.operators.intrinsic.Goals as goal

pub returns : goal.returns
returns c = c.placed.ensures (values.intrinsic_value c.args.function c.args.args.now) c.intrinsic.ensures
