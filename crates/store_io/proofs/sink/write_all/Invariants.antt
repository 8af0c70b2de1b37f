use Rattle.std.proofs.Common.{length, take, ◌-◌, ◌≤◌}
use Rattle.store_io.specs.Told.{Takes}
use Rattle.store_io.proofs.sink.write_all.Given as goal

abbrev pub invariant-parts : goal.invariant-parts
invariant-parts g l = record {
  within : l.at ≤ length l.text;
  taken : Takes (take l.at l.text) (g.O.Sink.taken l.initial.out) (g.O.Sink.taken l.out);
  later : g.O.Sink.faults l.initial.out ≤ g.O.Sink.faults l.out;
  wants_later : g.O.Sink.wants l.initial.out ≤ g.O.Sink.wants l.out;
}

abbrev pub decreases-parts : goal.decreases-parts
decreases-parts g l = length l.text - l.at
