use Rattle.std.proofs.Common.{◌≡◌, ◌-◌, ◌≤◌, ◌++◌, length, drop}
use Rattle.ftn_tree.specs.Reading as reading
use Rattle.free_scan.proofs.free_form.values.inside.Given as goal

abbrev pub invariant-bytes : goal.invariant-bytes
invariant-bytes l = record {
  goes : reading.inside l.quote l.rest ≡ l.made.items ++ reading.inside l.quote (drop l.at l.rest);
  within : l.at ≤ length l.rest;
}

abbrev pub decreases-bytes : goal.decreases-bytes
decreases-bytes l = length l.rest - l.at
