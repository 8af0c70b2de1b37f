use Rattle.std.proofs.Common.{◌≡◌, ◌≤◌, ◌++◌, drop}
use Rattle.rename_ref.proofs.LineLengths.{lengths_after}
use Rattle.rename_ref.proofs.conditions.line_lengths.Given as goal

abbrev pub invariant-loop-byte : goal.invariant-loop-byte
invariant-loop-byte l = record {
  lengths : lengths_after 0 l.text ≡ l.lengths.items ++ lengths_after l.length (drop l.byte-index l.text);
  within : l.length ≤ l.byte-index;
}
