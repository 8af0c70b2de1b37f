use Rattle.std.proofs.Common.{◌≡◌, ◌++◌, map, take}
use Rattle.scope_bind.specs.steps.Occurrences.{denoted_by}
use Rattle.scope_bind.proofs.occurrences.push_mentions.Given as goal

abbrev pub invariant-loop-mention : goal.invariant-loop-mention
invariant-loop-mention l = l.found.items ≡ l.initial.found.items ++ map (denoted_by l.known.files.now l.scope l.statement) (take l.mention-index l.mentions)
