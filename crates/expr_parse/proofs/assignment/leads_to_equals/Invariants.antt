use Rattle.std.proofs.Common.{◌≡◌, ◌≤◌, drop}
use Rattle.ftn_tree.specs.Assignments.{leads_to_equals}
use Rattle.expr_parse.proofs.assignment.leads_to_equals.Given as goal

abbrev pub invariant-loop-token : goal.invariant-loop-token
invariant-loop-token l = record {
  few : l.depth ≤ l.token-index;
  rest : leads_to_equals 0 l.tokens ≡ leads_to_equals l.depth (drop l.token-index l.tokens);
}
