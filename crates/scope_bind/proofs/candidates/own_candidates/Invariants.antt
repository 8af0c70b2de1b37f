use Rattle.std.proofs.Common.{◌≡◌, map, take}
use Rattle.scope_bind.specs.steps.Globals.{own_candidate}
use Rattle.scope_bind.proofs.candidates.own_candidates.Given as goal

abbrev pub invariant-loop-one : goal.invariant-loop-one
invariant-loop-one l = l.made.items ≡ map own_candidate (take l.one-index l.occurrences)
