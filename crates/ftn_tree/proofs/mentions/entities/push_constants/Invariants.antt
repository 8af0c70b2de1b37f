use Rattle.std.proofs.Common.{◌≡◌, ◌++◌, take}
use Rattle.std.specs.List.{flat_map}
use Rattle.ftn_tree.specs.PartMentions.{in_constant}
use Rattle.ftn_tree.proofs.mentions.entities.push_constants.Given as goal

abbrev pub invariant-loop-constant : goal.invariant-loop-constant
invariant-loop-constant l = l.found.items ≡ l.initial.found.items ++ flat_map in_constant (take l.constant-index l.constants)
