use Rattle.std.proofs.Common.{◌≡◌, ◌++◌, take}
use Rattle.ftn_tree.specs.Around.{units_around}
use Rattle.ftn_tree.proofs.around.+around.Given as goal

abbrev pub invariant-push_around-loop-unit : goal.invariant-push_around-loop-unit
invariant-push_around-loop-unit l = l.into.items ≡ l.initial.into.items ++ units_around (take l.unit-index l.units) l.statement
