use Rattle.std.proofs.Common.{◌≡◌, take}
use Rattle.std.specs.Prelude.{min}
use Rattle.ftn_tree.specs.Breaks as breaks
use Rattle.free_scan.proofs.free_form.values.is_too_big.Given as goal

abbrev pub invariant-loop-digit : goal.invariant-loop-digit
invariant-loop-digit l = l.number ≡ min (breaks.number_of (take l.digit-index l.digits)) 4294967296
