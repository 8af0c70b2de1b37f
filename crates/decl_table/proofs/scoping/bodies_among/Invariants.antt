use Rattle.std.proofs.Common.{◌≡◌, map, take}
use Rattle.decl_table.specs.steps.Located.{is_interface_number}
use Rattle.decl_table.proofs.scoping.bodies_among.Given as goal

abbrev pub invariant-loop-number : goal.invariant-loop-number
invariant-loop-number l = l.bodies.items ≡ map (is_interface_number l.files l.all) (take l.number-index l.around)
