-- A function value that reads expressions to a depth. It serves the proof of the code.
use Rattle.std.specs.Prelude.{ℕ, Result}
use Rattle.std.specs.declared.alloc.Global.{Global}
use denote.Ref.{MutBor}
use Rattle.ftn_tree.specs.declared.expr.Expr.{Expr}
use Rattle.expr_parse.specs.declared.fault.Misfit.{Misfit}
use Rattle.expr_parse.specs.steps.Input.{Input, Gives}
use Rattle.expr_parse.specs.steps.Reading.{read}

pub record Nests (depth : ℕ) (pre : Global → MutBor Input → ℕ → ℕ → Type 0)
    (post : Global → MutBor Input → ℕ → ℕ → Result Expr Misfit → MutBor Input → Type 0) : Type 0 where
  pub callable : (alloc : Global) (old : MutBor Input) (most : ℕ) → pre alloc old depth most
  pub reads : (alloc : Global) (old new : MutBor Input) (most : ℕ) (result : Result Expr Misfit) → post alloc old depth most result new
      → Gives (read depth most old.now) result new.now
