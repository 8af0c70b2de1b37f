use Rattle.std.proofs.Common.{◌≡◌, map, take}
use Rattle.scope_bind.specs.steps.Globals.{name_candidate}
use Rattle.scope_bind.proofs.candidates.name_candidates.Given as goal

abbrev pub invariant-loop-one : goal.invariant-loop-one
invariant-loop-one l = l.made.items ≡ map name_candidate (take l.one-index l.occurrences)
