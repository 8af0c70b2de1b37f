use Rattle.std.proofs.Common.{◌≡◌, ◌+◌, length, take}
use Rattle.ftn_base.specs.StorageMembers.{all_members}
use Rattle.storage_layout.proofs.sorts.place_of.Given as goal

abbrev pub invariant-loop-list : goal.invariant-loop-list
invariant-loop-list l = length (all_members (take l.list l.blocks)) + l.left ≡ l.number
