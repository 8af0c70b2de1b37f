use Rattle.std.proofs.Common.{◌≡◌, true, take}
use Rattle.scope_bind.specs.steps.Owned.{tokens_of}
use Rattle.scope_bind.proofs.distinct.said_tokens.Given as goal

abbrev pub invariant-loop-s : goal.invariant-loop-s
invariant-loop-s l = l.tokens.items ≡ tokens_of (λ s. true) (take l.s-index l.said)
