use Rattle.std.proofs.Common.{◌≡◌, ◌++◌, take}
use Rattle.std.specs.List.{flat_map}
use Rattle.name_types.specs.steps.Generics.{specific_by}
use Rattle.name_types.proofs.generics.Generics.push_listed.Given as goal

abbrev pub invariant-loop-mention : goal.invariant-loop-mention
invariant-loop-mention l = l.found.items ≡ l.initial.found.items ++ flat_map (specific_by l.self.project.now l.file) (take l.mention-index l.mention-items)
