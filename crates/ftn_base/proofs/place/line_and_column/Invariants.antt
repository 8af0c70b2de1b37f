use Rattle.std.proofs.Common.{◌≡◌, ◌+◌, ◌≤◌, drop}
use Rattle.std.specs.Prelude.{fold}
use Rattle.ftn_base.specs.Places.{advance}
use Rattle.ftn_base.proofs.place.line_and_column.Given as goal

abbrev pub invariant-loop-byte : goal.invariant-loop-byte
invariant-loop-byte l = record {
  place : fold advance (1, 1) l.byte-items ≡ fold advance l.place (drop l.byte-index l.byte-items);
  line : l.place.0 ≤ l.byte-index + 1;
  column : l.place.1 ≤ l.byte-index + 1;
}
