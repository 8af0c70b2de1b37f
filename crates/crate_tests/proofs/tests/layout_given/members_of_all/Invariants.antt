use Rattle.std.proofs.Common.{◌≡◌, take}
use Rattle.ftn_base.specs.StorageMembers.{all_members}
use Rattle.crate_tests.proofs.tests.layout_given.members_of_all.Given as goal

abbrev pub invariant-loop-list : goal.invariant-loop-list
invariant-loop-list l = l.members.items ≡ all_members (take l.list-index l.blocks)
