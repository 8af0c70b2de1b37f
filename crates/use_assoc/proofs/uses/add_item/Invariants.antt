use Rattle.std.proofs.Common.{◌≡◌, map, drop}
use Rattle.indexmap.specs.IndexSet.{insert_all}
use Rattle.ftn_base.specs.Accessible.{is_same_pair, gives}
use Rattle.use_assoc.specs.steps.Table.{found_in}
use Rattle.use_assoc.proofs.uses.add_item.Given as goal

abbrev pub invariant-loop-entity : goal.invariant-loop-entity
invariant-loop-entity l =
    insert_all is_same_pair l.initial.given (gives (found_in l.table.by_name) l.item)
    ≡ insert_all is_same_pair l.given (map (λ entity. (l.item.local, entity)) (drop l.entity-index l.entity-items))
