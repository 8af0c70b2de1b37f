use Rattle.std.proofs.Common.{◌≡◌, ◌++◌, take}
use Rattle.std.specs.List.{filter_map}
use Rattle.const_value.specs.steps.Giving.{declared_by}
use Rattle.const_value.specs.steps.Telling.{sight_of}
use Rattle.const_value.proofs.givens.push_declared.Given as goal

abbrev pub invariant-loop-declared : goal.invariant-loop-declared
invariant-loop-declared l = l.found.items ≡ l.initial.found.items ++ filter_map (declared_by (sight_of l.view)) (take l.declared-index l.entities)
