use Rattle.std.proofs.Common.{◌≡◌, List, map, take}
use Rattle.std.specs.List.Sorted.{IsNonDecreasingBy}
use Rattle.const_value.specs.declared.intervals.Reach.{Reach}
use Rattle.const_value.specs.steps.Intervals.{all_of, least, raised, tokens_by}
use Rattle.const_value.proofs.intervals.first_across.Given as goal

abbrev pub invariant-loop-list : goal.invariant-loop-list
invariant-loop-list l = (ends : List Reach) → IsNonDecreasingBy (λ (r : Reach). r.low) ends → l.ends.items ≡ raised 0 ends → l.first ≡ least (tokens_by ends (all_of (map (λ list. list.items) (take l.list-index l.later))))
