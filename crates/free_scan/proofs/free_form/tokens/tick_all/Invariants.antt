use Rattle.std.proofs.Common.{◌≡◌, ◌+◌}
use Rattle.free_scan.proofs.free_form.tokens.tick_all.Given as goal

abbrev pub invariant-loop : goal.invariant-loop
invariant-loop g l = l.steps ≡ l.fn.steps + l.counter
