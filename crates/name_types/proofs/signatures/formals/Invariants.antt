use Rattle.std.proofs.Common.{◌≡◌, map, take}
use Rattle.name_types.specs.steps.Kinds.{formal_seen}
use Rattle.name_types.specs.steps.Signatures.{formal_at}
use Rattle.name_types.proofs.signatures.formals.Given as goal

abbrev pub invariant-loop-token : goal.invariant-loop-token
invariant-loop-token l = map formal_seen l.made.items ≡ map (formal_at l.files l.declared l.scope l.file) (take l.token-index l.tokens)
