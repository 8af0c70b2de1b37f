use Rattle.std.proofs.Common.{◌≡◌, drop}
use Rattle.store_io.specs.Failures.{entry_of}
use Rattle.store_io.proofs.store_calls.entry_of.Given as goal

abbrev pub invariant-loop-fail : goal.invariant-loop-fail
invariant-loop-fail l = entry_of l.fails l.call ≡ entry_of (drop l.fail-index l.fails) l.call
