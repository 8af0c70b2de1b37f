use Rattle.std.proofs.Common.{◌≡◌, ◌+◌, ◌≤◌, drop}
use Rattle.std.specs.List.{position_from}
use Rattle.ftn_base.specs.Places.{is_place, offset_of, places}
use Rattle.ftn_base.proofs.place.offset_at.Given as goal

abbrev pub invariant-loop-at : goal.invariant-loop-at
invariant-loop-at l = record {
  first : offset_of l.text l.line l.column ≡ position_from (is_place l.line l.column) l.at (places l.place (drop l.at l.text));
  line : l.place.0 ≤ l.at + 1;
  column : l.place.1 ≤ l.at + 1;
}
