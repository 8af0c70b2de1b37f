use Rattle.std.proofs.Common.{◌≡◌, ◌≤◌, drop}
use Rattle.ftn_base.specs.Limits.{greatest_integer}
use Rattle.free_scan.specs.Spelling.{number_of}
use Rattle.free_scan.proofs.Rows.{number_after}
use Rattle.free_scan.proofs.first_form.rows.whole_value.Given as goal

abbrev pub invariant-loop-digit : goal.invariant-loop-digit
invariant-loop-digit l = (number_of l.digits ≡ number_after l.value (drop l.digit-index l.digits)) × (l.value ≤ greatest_integer)
