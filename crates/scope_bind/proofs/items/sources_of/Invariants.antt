use Rattle.std.proofs.Common.{◌≡◌, ◌≤◌, ℕ, length, drop}
use Rattle.scope_bind.specs.steps.Items.{source_in, source_of}
use Rattle.scope_bind.proofs.items.sources_of.Given as goal

abbrev pub invariant-loop-at : goal.invariant-loop-at
invariant-loop-at l = (l.at ≤ length l.items) × ((token : ℕ) → source_in l.sources token ≡ source_of token (drop l.at l.items))

abbrev pub decreases-loop-at : goal.decreases-loop-at
decreases-loop-at l = l.at
