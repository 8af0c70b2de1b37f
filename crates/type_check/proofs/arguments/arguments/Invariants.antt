use Rattle.std.proofs.Common.{◌≡◌, map, take}
use Rattle.type_check.specs.steps.Kept.{typed_seen}
use Rattle.type_check.specs.steps.Sights.{argument}
use Rattle.type_check.proofs.arguments.arguments.Given as goal

abbrev pub invariant-loop-part : goal.invariant-loop-part
invariant-loop-part l = map typed_seen l.made.items ≡ map argument (map typed_seen (take l.part-index l.given))
