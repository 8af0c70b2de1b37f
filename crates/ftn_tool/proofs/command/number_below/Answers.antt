use Rattle.std.proofs.Common.{ℕ, ◌^◌, ◌<◌, ◌≤◌, ◌+◌, ◌*◌, ◌-◌, List, length, get_or, drop, suc, sym, arith}
use Rattle.std.proofs.Math.Seq.{drop-cons}
use Rattle.std.specs.Prelude.{fold}
use Rattle.free_scan.specs.Spelling.{number_of}
use Rattle.ftn_tool.proofs.Numbers.{add_digit, number_grows, too_large}
use Rattle.ftn_tool.proofs.command.number_below.Goals as goal

-- the digit here makes the number large, and the rest keeps it so
grown : (digits : List ℕ) (at n : ℕ) → at < length digits → 2 ^ 32 ≤ 10 * n + (get_or digits at 0 - 48) → 2 ^ 32 ≤ fold add_digit n (drop at digits)
grown digits at n inside large =
    rw (drop-cons digits at 0 inside) (omega (arith, number_grows (drop (suc at) digits) (10 * n + (get_or digits at 0 - 48))))

pub returns-then-number : goal.returns-then-number
returns-then-number c =
    let inside : c.loop-digit.digit-index < length c.args.digits.now = omega arith in
    let large : 2 ^ 32 ≤ 10 * c.loop-digit.number + (get_or c.args.digits.now c.loop-digit.digit-index 0 - 48) = omega arith in
    let more : 2 ^ 32 ≤ number_of c.args.digits.now = rw c.loop-digit.invariant.value (grown c.args.digits.now c.loop-digit.digit-index c.loop-digit.number inside large) in
    sym (too_large (number_of c.args.digits.now) (2 ^ 32) (omega arith) more)
