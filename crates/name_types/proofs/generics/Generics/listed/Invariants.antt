use Rattle.std.proofs.Common.{◌≡◌, take}
use Rattle.std.specs.List.{flat_map}
use Rattle.name_types.specs.steps.Generics.{listed_at}
use Rattle.name_types.proofs.generics.Generics.listed.Given as goal

abbrev pub invariant-loop-statement : goal.invariant-loop-statement
invariant-loop-statement l = l.found.items ≡ flat_map (listed_at l.files l.self.project.now l.file) (take l.statement-index l.statements)
