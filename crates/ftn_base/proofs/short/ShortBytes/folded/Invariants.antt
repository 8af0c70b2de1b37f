use Rattle.std.proofs.Common.{◌≡◌, take}
use Rattle.ftn_base.specs.Letters.{folded}
use Rattle.ftn_base.proofs.short.ShortBytes.folded.Given as goal

abbrev pub invariant-loop-byte : goal.invariant-loop-byte
invariant-loop-byte l = l.text.items ≡ folded (take l.byte-index l.bytes)
