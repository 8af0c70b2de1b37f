use Rattle.std.proofs.Common.{◌≡◌, ◌++◌, map, take}
use Rattle.scope_bind.specs.steps.Occurrences.{unknown_at}
use Rattle.scope_bind.proofs.occurrences.push_unknown.Given as goal

abbrev pub invariant-loop-mention : goal.invariant-loop-mention
invariant-loop-mention l = l.found.items ≡ l.initial.found.items ++ map (unknown_at l.file) (take l.mention-index l.mentions)
