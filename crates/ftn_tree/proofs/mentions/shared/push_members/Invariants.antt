use Rattle.std.proofs.Common.{◌≡◌, ◌++◌, take}
use Rattle.std.specs.List.{flat_map}
use Rattle.ftn_tree.specs.PartMentions.{in_member}
use Rattle.ftn_tree.proofs.mentions.shared.push_members.Given as goal

abbrev pub invariant-loop-member : goal.invariant-loop-member
invariant-loop-member l = l.found.items ≡ l.initial.found.items ++ flat_map (in_member l.role) (take l.member-index l.members)
