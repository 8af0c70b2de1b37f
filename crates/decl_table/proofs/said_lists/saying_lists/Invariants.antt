use Rattle.std.proofs.Common.{◌≡◌, map, take}
use Rattle.ftn_tree.specs.Extents.{scoping}
use Rattle.ftn_tree.specs.Sayings.{sayings}
use Rattle.decl_table.proofs.said_lists.saying_lists.Given as goal

abbrev pub invariant-loop-unit : goal.invariant-loop-unit
invariant-loop-unit l = (l.at ≡ l.unit-index) × (map (λ one. one.items) l.made.items ≡ map (sayings l.files) (take l.unit-index (scoping l.files)))
