use Rattle.std.proofs.Common.{◌≡◌, ◌-◌, ◌≤◌, length, drop}
use Rattle.ftn_tree.specs.Pieces as pieces
use Rattle.free_scan.proofs.ConstantLaws.{plus}
use Rattle.free_scan.proofs.free_form.pieces.constant_len.Given as goal

abbrev pub invariant-bytes : goal.invariant-bytes
invariant-bytes l = record {
  goes : pieces.constant_len l.quote l.rest ≡ plus l.at (pieces.constant_len l.quote (drop l.at l.rest));
  within : l.at ≤ length l.rest;
}

abbrev pub decreases-bytes : goal.decreases-bytes
decreases-bytes l = length l.rest - l.at
