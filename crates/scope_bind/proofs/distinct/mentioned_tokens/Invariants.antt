use Rattle.std.proofs.Common.{◌≡◌, take}
use Rattle.scope_bind.specs.steps.Owned.{mentioned}
use Rattle.scope_bind.proofs.distinct.mentioned_tokens.Given as goal

abbrev pub invariant-loop-mention : goal.invariant-loop-mention
invariant-loop-mention l = l.tokens.items ≡ mentioned (take l.mention-index l.mentions)
