use Rattle.expr_parse.proofs.Deep.{deep_decided}
use Rattle.expr_parse.proofs.misfits.is_deep.Goals as goal

pub returns : goal.returns
returns c = deep_decided c.args.tokens.now c.nests_too_deep.result c.nests_too_deep.ensures
