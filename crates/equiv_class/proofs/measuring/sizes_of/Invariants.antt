use Rattle.std.proofs.Common.{◌≡◌, ◌<◌, ℕ, length, slice_index}
use Rattle.equiv_class.specs.steps.Lists.{lists_of, reach_of}
use Rattle.equiv_class.proofs.measuring.sizes_of.Given as goal

abbrev pub invariant-loop-label : goal.invariant-loop-label
invariant-loop-label l = (length l.size.items ≡ l.label-index) × ((v : ℕ) → v < l.label-index → slice_index l.size.items v ≡ reach_of (lists_of l.sequences) (slice_index l.order v))
