use Rattle.std.proofs.Common.{◌≡◌, [], drop}
use Rattle.indexmap.specs.IndexSet.{insert_all}
use Rattle.std.specs.Str.{bytes_eq}
use Rattle.use_assoc.proofs.name_set.set_of.Given as goal

abbrev pub invariant-loop-name : goal.invariant-loop-name
invariant-loop-name l = insert_all bytes_eq [] l.names ≡ insert_all bytes_eq l.set (drop l.name-index l.names)
