use Rattle.std.proofs.Common.{◌≡◌, length}
use Rattle.ftn_base.specs.ImplicitLetters as spec
use Rattle.implicit_type.proofs.rows.put.Given as goal

abbrev pub invariant-loop-letter : goal.invariant-loop-letter
invariant-loop-letter l = record {
  same : spec.with_entry l.fn.from l.fn.to l.fn.entry l.initial.entries ≡ spec.with_entry l.letter l.to l.entry l.entries;
  long : length l.entries ≡ 26;
}
