use Rattle.std.proofs.Common.{◌≡◌, map, take}
use Rattle.const_value.specs.steps.Intervals.{all_of, ends_of}
use Rattle.const_value.proofs.intervals.sorted_ends.Given as goal

abbrev pub invariant-loop-list : goal.invariant-loop-list
invariant-loop-list l = l.sorted.items ≡ map ends_of (all_of (map (λ list. list.items) (take l.list-index l.lists)))
