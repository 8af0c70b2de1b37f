use Rattle.std.proofs.Common.{◌≡◌, ◌++◌, take}
use Rattle.std.specs.List.{flat_map}
use Rattle.ftn_tree.specs.PartMentions.{in_rename}
use Rattle.ftn_tree.proofs.mentions.others.push_renames.Given as goal

abbrev pub invariant-loop-item : goal.invariant-loop-item
invariant-loop-item l = l.found.items ≡ l.initial.found.items ++ flat_map in_rename (take l.item-index l.items)
