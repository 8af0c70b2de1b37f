use Rattle.std.proofs.Common.{◌≡◌, drop}
use Rattle.rename_ref.specs.Meaning as meaning
use Rattle.rename_ref.specs.steps.MeaningSteps.{in_front}
use Rattle.rename_ref.proofs.first_meaning.statement.values.Given as goal

abbrev pub invariant-loop-item : goal.invariant-loop-item
invariant-loop-item l = meaning.values l.memory l.items l.steps ≡ in_front l.numbers.items (meaning.values l.memory (drop l.item-index l.items) l.left)
