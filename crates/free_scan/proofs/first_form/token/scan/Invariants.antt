use Rattle.std.proofs.Common.{◌+◌, ◌-◌, ◌≤◌, length, drop}
use Rattle.free_scan.specs.Tokens.{placed_pieces_of}
use Rattle.free_scan.specs.steps.Onward.{GoesOn}
use Rattle.free_scan.proofs.first_form.token.scan.Given as goal

abbrev pub decreases-pieces : goal.decreases-pieces
decreases-pieces l = length l.text - l.at

abbrev pub invariant-pieces : goal.invariant-pieces
invariant-pieces l = record {
  goes : GoesOn (placed_pieces_of l.text) l.found.items l.at l.line (drop l.at l.text);
  within : l.at ≤ length l.text;
  line : l.line ≤ l.at + 1;
}
