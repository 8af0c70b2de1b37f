use Rattle.std.proofs.Common.{◌≡◌, map, take}
use Rattle.type_check.specs.steps.Choices.{choice_kept}
use Rattle.type_check.specs.steps.Kept.{typed_seen}
use Rattle.name_types.specs.steps.Senses.{specifics_by}
use Rattle.type_check.specs.steps.Sights.{chosen_among}
use Rattle.type_check.proofs.generic_references.choice_among.Given as goal

abbrev pub invariant-loop-scope : goal.invariant-loop-scope
invariant-loop-scope l = choice_kept l.found ≡ chosen_among (specifics_by l.signatures (take l.scope-index l.specifics)) (map typed_seen l.actuals)
