use Rattle.std.proofs.Common.{◌≡◌, take}
use Rattle.ftn_tree.specs.Sayings.{declares}
use Rattle.scope_bind.specs.steps.Owned.{tokens_of}
use Rattle.scope_bind.proofs.distinct.declaring_tokens.Given as goal

abbrev pub invariant-loop-s : goal.invariant-loop-s
invariant-loop-s l = l.tokens.items ≡ tokens_of declares (take l.s-index l.said)
