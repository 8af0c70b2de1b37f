use Rattle.std.proofs.Common.{◌≡◌, ◌==◌, ◌+◌, ◌≤◌, length, take}
use Rattle.std.specs.List.{suffix_len}
use Rattle.value_ops.proofs.intrinsics.trimmed_len.Given as goal

abbrev pub invariant-loop-len : goal.invariant-loop-len
invariant-loop-len l = (l.len ≤ length l.text) × (l.len + suffix_len (λ byte. byte == 32) l.text ≡ length l.text + suffix_len (λ byte. byte == 32) (take l.len l.text))

abbrev pub decreases-loop-len : goal.decreases-loop-len
decreases-loop-len l = l.len
