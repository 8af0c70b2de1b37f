use Rattle.std.proofs.Common.{◌≡◌, ◌++◌, map, take}
use Rattle.ftn_tree.specs.Wants.{placed}
use Rattle.ftn_tree.proofs.wants.places.place_each.Given as goal

abbrev pub invariant-loop-expr : goal.invariant-loop-expr
invariant-loop-expr l = l.found.items ≡ l.initial.found.items ++ map (placed l.want) (take l.expr-index l.exprs)
