use Rattle.std.proofs.Common.{◌≡◌, ◌≤◌, length, drop}
use Rattle.scope_bind.specs.steps.Entities.{AreNumbers, count_of}
use Rattle.scope_bind.proofs.entities.final_numbers.Given as goal

abbrev pub invariant-loop-at : goal.invariant-loop-at
invariant-loop-at l =
    (l.at ≤ length l.entities) × (length l.numbers.items ≡ count_of l.known.files.now) × AreNumbers l.known.files.now l.at (drop l.at l.entities) l.numbers.items

abbrev pub decreases-loop-at : goal.decreases-loop-at
decreases-loop-at l = l.at
