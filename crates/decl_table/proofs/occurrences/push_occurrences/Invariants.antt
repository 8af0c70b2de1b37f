use Rattle.std.proofs.Common.{◌≡◌, ◌++◌, map, take}
use Rattle.decl_table.specs.steps.Occurrences.{occurrence_by}
use Rattle.decl_table.proofs.occurrences.push_occurrences.Given as goal

abbrev pub invariant-loop-mention : goal.invariant-loop-mention
invariant-loop-mention l = l.found.items ≡ l.initial.found.items ++ map (occurrence_by l.files l.file l.scope) (take l.mention-index l.mentions)
