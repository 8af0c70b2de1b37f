-- Operands that are joined from the right.
use Rattle.std.proofs.Common.{◌≡◌, refl, ap, ℕ, List, [], ◌∷◌, ◌++◌}
use Rattle.ftn_tree.specs.declared.expr.Expr.{Expr}
use Rattle.ftn_tree.specs.declared.expr.Expr.TheVariants as e
use Rattle.ftn_tree.specs.declared.operator.Operator.TheVariants as ops
use Rattle.expr_parse.specs.steps.Operators.{chained}

pub chained_last : (steps : List (Expr × ℕ)) (step : Expr × ℕ) (last : Expr) → chained (steps ++ step ∷ []) last ≡ chained steps (e.Binary step.1 ops.Power step.0 last)
chained_last [] step last = refl
chained_last (first ∷ steps) step last = ap (λ right. e.Binary first.1 ops.Power first.0 right) (chained_last steps step last)
