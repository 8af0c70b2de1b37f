use Rattle.std.proofs.Common.{◌≡◌, ◌++◌, take}
use Rattle.std.specs.List.{flat_map}
use Rattle.ftn_tree.specs.PartMentions.{in_data_value}
use Rattle.ftn_tree.proofs.mentions.shared.push_data_values.Given as goal

abbrev pub invariant-loop-value : goal.invariant-loop-value
invariant-loop-value l = l.found.items ≡ l.initial.found.items ++ flat_map in_data_value (take l.value-index l.values)
