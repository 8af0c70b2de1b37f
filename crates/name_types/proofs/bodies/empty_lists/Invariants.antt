use Rattle.std.proofs.Common.{◌≡◌}
use Rattle.const_value.specs.steps.Lists.{lists_of}
use Rattle.name_types.specs.steps.Generics.{none_of}
use Rattle.name_types.proofs.bodies.empty_lists.Given as goal

abbrev pub invariant-loop-number : goal.invariant-loop-number
invariant-loop-number l = lists_of l.lists.items ≡ none_of l._number
