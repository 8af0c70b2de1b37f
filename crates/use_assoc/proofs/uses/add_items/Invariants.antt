use Rattle.std.proofs.Common.{◌≡◌, drop}
use Rattle.std.specs.List.{flat_map}
use Rattle.indexmap.specs.IndexSet.{insert_all}
use Rattle.ftn_base.specs.Accessible.{is_same_pair, gives}
use Rattle.use_assoc.specs.steps.Table.{found_in}
use Rattle.use_assoc.proofs.uses.add_items.Given as goal

abbrev pub invariant-loop-item : goal.invariant-loop-item
invariant-loop-item l =
    insert_all is_same_pair l.initial.given (flat_map (gives (found_in l.table.by_name)) l.items)
    ≡ insert_all is_same_pair l.given (flat_map (gives (found_in l.table.by_name)) (drop l.item-index l.items))
