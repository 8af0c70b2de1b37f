use Rattle.std.proofs.Common.{◌≡◌, [], nat_eq, map, take, ℕ}
use Rattle.indexmap.specs.IndexMap.{keys}
use Rattle.indexmap.specs.IndexSet.{insert_all}
use Rattle.ftn_base.specs.Accessible.{lists_of}
use Rattle.use_assoc.specs.steps.Groups.{found_lists}
use Rattle.use_assoc.proofs.groups.grouped.Given as goal

abbrev pub invariant-loop-list : goal.invariant-loop-list
invariant-loop-list l =
    (keys l.groups ≡ insert_all nat_eq [] (map (λ list. list.«module») (take l.list-index l.lists)))
    × ((number : ℕ) → found_lists l.groups number ≡ lists_of number (take l.list-index l.lists))
