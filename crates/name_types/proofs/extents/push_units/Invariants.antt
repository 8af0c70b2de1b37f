use Rattle.std.proofs.Common.{◌≡◌, ◌++◌, take}
use Rattle.std.specs.List.{flat_map}
use Rattle.ftn_tree.specs.Extents.{extents_in}
use Rattle.name_types.proofs.extents.push_units.Given as goal

abbrev pub invariant-loop-unit : goal.invariant-loop-unit
invariant-loop-unit l = l.found.items ≡ l.initial.found.items ++ flat_map (extents_in l.file) (take l.unit-index l.units)
