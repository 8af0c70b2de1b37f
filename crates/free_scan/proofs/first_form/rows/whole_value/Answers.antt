use Rattle.std.proofs.Common.{◌+◌, ◌*◌, ◌<◌, arith}
use Rattle.ftn_base.specs.Limits.{greatest_integer}
use Rattle.free_scan.proofs.Rows.{stops}
use Rattle.free_scan.proofs.first_form.rows.whole_value.Goals as goal

pub returns-then-value-from : goal.returns-then-value-from
returns-then-value-from c =
    let big : greatest_integer < 10 * c.loop-digit.value + c.from.result = rw c.from-in-loop-digit.ensures at c.if-value-from.true in
    stops c.args.digits.now c.loop-digit.digit-index c.loop-digit.value _ c.loop-digit-test.true c.loop-digit.invariant.0 (omega (arith, c.from.ensures, c.saturating_sub.ensures)) big
