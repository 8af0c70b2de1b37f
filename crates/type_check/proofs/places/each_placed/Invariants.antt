use Rattle.std.proofs.Common.{◌≡◌, drop}
use Rattle.type_check.specs.steps.Noted.{first_seen}
use Rattle.type_check.specs.steps.Stated.{noted_each, placed_told}
use Rattle.type_check.proofs.places.each_placed.Given as goal

abbrev pub invariant-loop-one : goal.invariant-loop-one
invariant-loop-one l = noted_each l.setting.file (placed_told l.setting) (first_seen l.initial.faults) l.placed ≡ noted_each l.setting.file (placed_told l.setting) (first_seen l.faults) (drop l.one-index l.placed)
