use Rattle.std.proofs.Common.{◌≡◌, ◌++◌, take}
use Rattle.std.specs.List.{flat_map}
use Rattle.ftn_tree.specs.Wants.{of_member}
use Rattle.ftn_tree.proofs.wants.declared.place_members.Given as goal

abbrev pub invariant-loop-member : goal.invariant-loop-member
invariant-loop-member l = l.found.items ≡ l.initial.found.items ++ flat_map of_member (take l.member-index l.members)
