use Rattle.std.proofs.Common.{◌≡◌, ◌++◌, map, take}
use Rattle.ftn_tree.specs.PartMentions.{save_mention}
use Rattle.ftn_tree.proofs.mentions.entities.push_saved.Given as goal

abbrev pub invariant-loop-item : goal.invariant-loop-item
invariant-loop-item l = l.found.items ≡ l.initial.found.items ++ map save_mention (take l.item-index l.items)
