use Rattle.std.proofs.Common.{◌≡◌, ◌<◌, ℕ, length, take}
use Rattle.storage_layout.specs.steps.Mixing.{IsKept, IsCrossed}
use Rattle.storage_layout.proofs.mixing.has_crossing.Given as goal

abbrev pub invariant-loop-span : goal.invariant-loop-span
invariant-loop-span l = record {
  counted : length l.reaches.items ≡ l.classes;
  kept : IsKept l.reaches.items (take l.span-index l.spans);
  none : (number : ℕ) → number < l.span-index → IsCrossed l.spans number → ⊥;
}
