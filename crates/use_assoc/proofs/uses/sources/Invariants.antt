use Rattle.std.proofs.Common.{◌≡◌, [], drop}
use Rattle.std.specs.Str.{bytes_eq}
use Rattle.indexmap.specs.IndexSet.{insert_all}
use Rattle.ftn_base.specs.Accessible.{sources_of, items_in}
use Rattle.use_assoc.specs.steps.Groups.{lists_in}
use Rattle.use_assoc.proofs.uses.sources.Given as goal

abbrev pub invariant-loop-list : goal.invariant-loop-list
invariant-loop-list l =
    insert_all bytes_eq [] (sources_of (items_in (lists_in l.lists)))
    ≡ insert_all bytes_eq l.set (sources_of (items_in (lists_in (drop l.list-index l.lists))))
