use Rattle.std.proofs.Common.{sym}
use Rattle.lossless_tree.proofs.Turns.{start_is, start_past}
use Rattle.lossless_tree.proofs.text.start_of.Goals as goal

pub returns-then-i-tokens : goal.returns-then-i-tokens
returns-then-i-tokens c = sym (start_past c.args.size c.args.tokens.now c.args.i c.if-i-tokens.true)

pub returns : goal.returns
returns c = sym (start_is c.args.size c.args.tokens.now c.args.i c.index-tokens-i.result c.if-i-tokens.false)
