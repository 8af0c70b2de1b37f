use Rattle.std.proofs.Common.{◌≡◌, ◌≤◌, drop}
use Rattle.free_scan.specs.Lines as spec
use Rattle.free_scan.specs.steps.PlainWalk.{plain_from}
use Rattle.free_scan.proofs.first_form.lines.is_plain.Given as goal

abbrev pub invariant-loop-byte : goal.invariant-loop-byte
invariant-loop-byte l = record {
  walked : spec.is_plain l.text ≡ plain_from l.count (drop l.byte-index l.text);
  count : l.count ≤ l.byte-index;
}
