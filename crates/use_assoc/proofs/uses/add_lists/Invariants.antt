use Rattle.std.proofs.Common.{◌≡◌, drop}
use Rattle.std.specs.List.{flat_map}
use Rattle.indexmap.specs.IndexSet.{insert_all}
use Rattle.ftn_base.specs.Accessible.{is_same_pair, gives, items_in}
use Rattle.use_assoc.specs.steps.Table.{found_in}
use Rattle.use_assoc.specs.steps.Groups.{lists_in}
use Rattle.use_assoc.proofs.uses.add_lists.Given as goal

abbrev pub invariant-loop-list : goal.invariant-loop-list
invariant-loop-list l =
    insert_all is_same_pair l.initial.given (flat_map (gives (found_in l.table.by_name)) (items_in (lists_in l.lists)))
    ≡ insert_all is_same_pair l.given (flat_map (gives (found_in l.table.by_name)) (items_in (lists_in (drop l.list-index l.lists))))
