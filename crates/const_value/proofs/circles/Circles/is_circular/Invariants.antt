use Rattle.std.proofs.Common.{◌≡◌, false, take}
use Rattle.std.specs.List.{list_any}
use Rattle.const_value.specs.steps.References.{leads_back}
use Rattle.const_value.proofs.circles.Circles.is_circular.Given as goal

abbrev pub invariant-loop-used : goal.invariant-loop-used
invariant-loop-used l = list_any (leads_back l.self l.name) (take l.used-index l.used-items) ≡ false
