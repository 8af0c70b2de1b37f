use Rattle.std.proofs.Common.{◌≡◌, ◌++◌, map, take}
use Rattle.crate_tests.proofs.tests.layout_given.add_list.Given as goal

abbrev pub invariant-loop-object : goal.invariant-loop-object
invariant-loop-object l = l.members.items ≡ l.fn.members.items ++ map (λ object. record { block = l.list.block; scope = l.list.scope; object = object }) (take l.object-index l.list.members.items)
