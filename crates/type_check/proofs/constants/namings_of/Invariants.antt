use Rattle.std.proofs.Common.{◌≡◌, map}
use Rattle.std.specs.List.{range_with_len}
use Rattle.type_check.specs.steps.Constants.{naming_at}
use Rattle.type_check.proofs.constants.namings_of.Given as goal

abbrev pub invariant-loop-number : goal.invariant-loop-number
invariant-loop-number l = l.made.items ≡ map (naming_at l.project l.values) (range_with_len 0 l.number)
