use Rattle.std.proofs.Common.{◌≡◌, ◌+◌, drop}
use Rattle.ftn_tree.specs.Code as code
use Rattle.free_scan.proofs.free_form.line.walked_len.Given as goal

abbrev pub invariant-loop-at : goal.invariant-loop-at
invariant-loop-at l = code.code_len l.fn.quote l.bytes ≡ l.at + code.code_len l.open (drop l.at l.bytes)
