use Rattle.std.proofs.Common.{◌≡◌, ◌+◌, take}
use Rattle.std.specs.Prelude.{min}
use Rattle.ftn_base.specs.Limits.{greatest_integer}
use Rattle.ftn_tree.specs.Breaks.{number_of}
use Rattle.expr_parse.proofs.constants.whole_value.Given as goal

abbrev pub invariant-loop-digit : goal.invariant-loop-digit
invariant-loop-digit l = l.value ≡ min (number_of (take l.digit-index l.digits)) (greatest_integer + 1)
