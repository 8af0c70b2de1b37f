use Rattle.std.proofs.Common.{◌≡◌, List, take}
use Rattle.std.specs.List.Sorted.{IsNonDecreasingBy}
use Rattle.const_expr.specs.FirstTold.{itself, sooner}
use Rattle.const_value.specs.declared.intervals.Reach.{Reach}
use Rattle.const_value.specs.steps.Intervals.{least, raised, tokens_by}
use Rattle.const_value.proofs.intervals.first_in.Given as goal

abbrev pub invariant-loop-span : goal.invariant-loop-span
invariant-loop-span l = (ends : List Reach) → IsNonDecreasingBy (λ (r : Reach). r.low) ends → l.sorted ≡ raised 0 ends → l.first ≡ sooner itself l.initial.first (least (tokens_by ends (take l.span-index l.list)))
