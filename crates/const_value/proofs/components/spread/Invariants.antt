use Rattle.std.proofs.Common.{◌≡◌, ◌+◌, ◌<◌, ◌++◌, ◌∷◌, ℕ, List, [], length, All}
use Rattle.const_value.specs.steps.Labelling.{IsRoot, IsSpreading, unlabelled}
use Rattle.const_value.specs.steps.Lists.{lists_of}
use Rattle.const_value.proofs.components.spread.Given as goal

abbrev pub invariant-turns : goal.invariant-turns
invariant-turns l = record {
  sized : length l.labels ≡ length l.users;
  known : All (λ number. number < length l.users) l.stack.items;
  spreading : (uses : List (List ℕ)) (front behind : List ℕ) → IsRoot uses (lists_of l.users) front l.label behind l.fn.labels
      → IsSpreading uses (lists_of l.users) (front ++ l.label ∷ []) l.label l.fn.labels l.labels l.stack.items;
}

abbrev pub decreases-turns : goal.decreases-turns
decreases-turns l = unlabelled l.labels + length l.stack.items
