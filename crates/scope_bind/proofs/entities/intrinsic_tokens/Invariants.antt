use Rattle.std.proofs.Common.{◌≡◌, filter, map, take}
use Rattle.scope_bind.specs.steps.Entities.{is_intrinsic_at, token_of}
use Rattle.scope_bind.proofs.entities.intrinsic_tokens.Given as goal

abbrev pub invariant-loop-one : goal.invariant-loop-one
invariant-loop-one l = l.found.items ≡ map token_of (filter (is_intrinsic_at l.known.files.now) (take l.one-index l.denoted))
