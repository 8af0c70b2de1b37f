use Rattle.std.proofs.Common.{◌≡◌, ◌≤◌, drop}
use Rattle.expr_parse.specs.steps.Faults.{is_deep, deep_from}
use Rattle.expr_parse.proofs.misfits.counts_too_deep.Given as goal

abbrev pub invariant-loop-here : goal.invariant-loop-here
invariant-loop-here l = record {
  same : is_deep l.tokens ≡ deep_from l.opened l.closed (drop l.here-index l.tokens);
  opened : l.opened ≤ l.here-index;
  closed : l.closed ≤ l.here-index;
}
