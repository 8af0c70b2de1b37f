use Rattle.std.proofs.Common.{◌≡◌, nat_eq, [], take}
use Rattle.indexmap.specs.IndexSet.{insert_all}
use Rattle.name_types.proofs.generics.distinct.Given as goal

abbrev pub invariant-loop-number : goal.invariant-loop-number
invariant-loop-number l = l.seen.keys ≡ insert_all nat_eq [] (take l.number-index l.numbers)
