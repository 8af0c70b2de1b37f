use Rattle.std.proofs.Common.{◌≡◌, take}
use Rattle.std.specs.List.{flat_map}
use Rattle.ftn_tree.specs.Declarations.{declared_at}
use Rattle.ftn_tree.specs.Extents.{layer_at}
use Rattle.const_value.proofs.data.own_declared.Given as goal

abbrev pub invariant-loop-statement : goal.invariant-loop-statement
invariant-loop-statement l = l.found.items ≡ flat_map (λ statement. declared_at (layer_at l.files l.unit.file statement)) (take l.statement-index l.statement-items)
