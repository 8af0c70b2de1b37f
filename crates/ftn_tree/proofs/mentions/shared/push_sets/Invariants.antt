use Rattle.std.proofs.Common.{◌≡◌, ◌++◌, take}
use Rattle.std.specs.List.{flat_map}
use Rattle.ftn_tree.specs.declared.mention.Role.TheVariants as role
use Rattle.ftn_tree.specs.PartMentions.{in_designators}
use Rattle.ftn_tree.proofs.mentions.shared.push_sets.Given as goal

abbrev pub invariant-loop-set : goal.invariant-loop-set
invariant-loop-set l = l.found.items ≡ l.initial.found.items ++ flat_map (in_designators role.Tied) (take l.set-index l.sets)
