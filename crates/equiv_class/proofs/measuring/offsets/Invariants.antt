use Rattle.std.proofs.Common.{◌≡◌, ◌+◌, ◌<◌, ℕ, length, slice_index}
use Rattle.equiv_class.specs.declared.sequences.TheConstants.{MIDDLE}
use Rattle.equiv_class.specs.steps.Lists.{begin_of, lists_of}
use Rattle.equiv_class.proofs.measuring.offsets.Given as goal

abbrev pub invariant-loop-object : goal.invariant-loop-object
invariant-loop-object l = (length l.offset.items ≡ l.object) × ((v : ℕ) → v < l.object → slice_index l.offset.items v + MIDDLE ≡ begin_of (lists_of l.sequences) v)
