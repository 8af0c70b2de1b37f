use Rattle.std.proofs.Common.{◌≡◌, take}
use Rattle.device_rows.proofs.running.copies.Given as goal

abbrev pub invariant-loop-file : goal.invariant-loop-file
invariant-loop-file l = l.made.items ≡ take l.file-index l.files
