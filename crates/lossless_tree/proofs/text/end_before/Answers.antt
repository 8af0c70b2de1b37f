use Rattle.std.proofs.Common.{arith, sym}
use Rattle.lossless_tree.proofs.Turns.{end_is}
use Rattle.lossless_tree.proofs.text.end_before.Goals as goal

pub returns : goal.returns
returns c = sym (end_is 0 c.args.tokens.now c.args.i c.index-tokens-i.result (grind (arith, c.if-i-eq0.false)) c.requires)
