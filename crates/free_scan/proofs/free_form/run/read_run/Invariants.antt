use Rattle.std.proofs.Common.{◌≡◌, ◌-◌, ◌≤◌, ◌++◌, length, drop}
use Rattle.ftn_tree.specs.Breaks.{piece_breaches}
use Rattle.ftn_tree.specs.Reading.{over_run, token_of}
use Rattle.free_scan.specs.steps.Firsts.{least}
use Rattle.free_scan.proofs.free_form.run.read_run.Given as goal

abbrev pub invariant-pieces : goal.invariant-pieces
invariant-pieces l = record {
  items : l.initial.items ++ over_run token_of l.bytes l.spots ≡ l.items ++ over_run token_of (drop l.at l.bytes) (drop l.at l.spots);
  firsts : least l.initial.firsts (over_run (piece_breaches l.edition) l.bytes l.spots) ≡ least l.firsts (over_run (piece_breaches l.edition) (drop l.at l.bytes) (drop l.at l.spots));
  within : l.at ≤ length l.bytes;
}

abbrev pub decreases-pieces : goal.decreases-pieces
decreases-pieces l = length l.bytes - l.at
