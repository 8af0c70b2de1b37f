use Rattle.std.proofs.Common.{◌≡◌, map, take}
use Rattle.ftn_tree.specs.Extents.{scoping}
use Rattle.ftn_tree.specs.DeclaredEntities.{own_mentions}
use Rattle.decl_table.proofs.said_lists.own_lists.Given as goal

abbrev pub invariant-loop-unit : goal.invariant-loop-unit
invariant-loop-unit l = (l.number ≡ l.unit-index) × (map (λ one. one.items) l.made.items ≡ map (own_mentions l.files) (take l.unit-index (scoping l.files)))
