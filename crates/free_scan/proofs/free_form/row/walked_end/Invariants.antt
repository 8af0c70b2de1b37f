use Rattle.std.proofs.Common.{◌≡◌, drop}
use Rattle.free_scan.specs.steps.PlainText as spec
use Rattle.free_scan.proofs.free_form.row.walked_end.Given as goal

abbrev pub invariant-loop-byte : goal.invariant-loop-byte
invariant-loop-byte l = spec.plain_end l.fn.quote l.bytes ≡ spec.plain_end l.open (drop l.byte-index l.bytes)
