use Rattle.std.proofs.Common.{◌≡◌, ◌++◌, take}
use Rattle.std.specs.List.{flat_map}
use Rattle.ftn_tree.specs.PartMentions.{in_designator}
use Rattle.ftn_tree.proofs.mentions.shared.push_designators.Given as goal

abbrev pub invariant-loop-designator : goal.invariant-loop-designator
invariant-loop-designator l = l.found.items ≡ l.initial.found.items ++ flat_map (in_designator l.role) (take l.designator-index l.designators)
