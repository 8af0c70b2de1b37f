use Rattle.std.proofs.Common.{◌≡◌, drop}
use Rattle.std.specs.Str.{bytes_eq}
use Rattle.indexmap.specs.IndexSet.{insert_all}
use Rattle.ftn_base.specs.Accessible.{sources_of}
use Rattle.use_assoc.proofs.uses.add_sources.Given as goal

abbrev pub invariant-loop-item : goal.invariant-loop-item
invariant-loop-item l = insert_all bytes_eq l.initial.set (sources_of l.items) ≡ insert_all bytes_eq l.set (sources_of (drop l.item-index l.items))
