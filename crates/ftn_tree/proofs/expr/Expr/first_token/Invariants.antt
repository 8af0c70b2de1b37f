use Rattle.std.proofs.Common.{◌≡◌}
use Rattle.ftn_tree.specs.Expressions.{first_token}
use Rattle.ftn_tree.proofs.expr.Expr.first_token.Given as goal

abbrev pub invariant-loop-expr : goal.invariant-loop-expr
invariant-loop-expr l = first_token l.self ≡ first_token l.expr
