use Rattle.std.proofs.Common.{◌≡◌, drop}
use Rattle.type_check.specs.steps.Noted.{first_seen}
use Rattle.type_check.specs.steps.Stated.{noted_sets}
use Rattle.type_check.proofs.designators.sets_faults.Given as goal

abbrev pub invariant-loop-set : goal.invariant-loop-set
invariant-loop-set l = noted_sets l.setting (first_seen l.initial.faults) l.sets ≡ noted_sets l.setting (first_seen l.faults) (drop l.set-index l.sets)
