use Rattle.std.proofs.Common.{◌≡◌, ◌++◌, take}
use Rattle.std.specs.List.{flat_map}
use Rattle.ftn_tree.specs.Expressions.{mentions_in}
use Rattle.ftn_tree.proofs.mentions.naming.push_exprs.Given as goal

abbrev pub invariant-loop-expr : goal.invariant-loop-expr
invariant-loop-expr l = l.found.items ≡ l.initial.found.items ++ flat_map mentions_in (take l.expr-index l.exprs)
