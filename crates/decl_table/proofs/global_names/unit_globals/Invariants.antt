use Rattle.std.proofs.Common.{◌≡◌, map, take}
use Rattle.ftn_tree.specs.GlobalNames.{unit_global}
use Rattle.decl_table.proofs.global_names.unit_globals.Given as goal

abbrev pub invariant-loop-unit : goal.invariant-loop-unit
invariant-loop-unit l = l.found.items ≡ map (unit_global l.files) (take l.unit-index l.units)
