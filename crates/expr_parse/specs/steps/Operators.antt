-- Operators as the code reads them. It serves the proof of the code; what is promised stands in the grammar of `ftn_tree`.
use Rattle.std.specs.Prelude.{ℕ, Bool, ◌&&◌, nat_le, if◌then◌else◌, List, [], ◌∷◌, Option, Some, None}
use Rattle.ftn_tree.specs.declared.expr.Expr.{Expr}
use Rattle.ftn_tree.specs.declared.expr.Expr.TheVariants as e
use Rattle.ftn_tree.specs.declared.lexeme.Lexeme.{Lexeme}
use Rattle.ftn_tree.specs.declared.operator.Operator.TheVariants as operators
use Rattle.ftn_tree.specs.Levels.{Binding, Prefix, between, before}
use Rattle.expr_parse.specs.steps.Input.{Input, peek}

abbrev pub fits_between : ℕ → ℕ → Binding → Bool
fits_between level own how = nat_le how.level level && nat_le own how.left

abbrev pub only_between : ℕ → ℕ → Option Binding → Option Binding
only_between level own None = None
only_between level own (Some how) = if fits_between level own how then Some how else None

abbrev pub between_at : Option Lexeme → Option Binding
between_at None = None
between_at (Some kind) = between kind

-- how the next token binds after an operand of its own level, in an expression of at most that level
unfoldable pub next_operator : ℕ → ℕ → Input → Option Binding
next_operator level own i = only_between level own (between_at (peek i))

abbrev pub before_at : Option Lexeme → Option Prefix
before_at None = None
before_at (Some kind) = before kind

abbrev pub only_before : ℕ → Option Prefix → Option Prefix
only_before level None = None
only_before level (Some how) = if nat_le how.level level then Some how else None

-- the same of an operator before an operand
unfoldable pub next_sign : ℕ → Input → Option Prefix
next_sign level i = only_before level (before_at (peek i))

-- operands, each with the number of the `**` after it, and the last one: `**` associates to the right
abbrev pub chained : List (Expr × ℕ) → Expr → Expr
chained [] last = last
chained (step ∷ steps) last = e.Binary step.1 operators.Power step.0 (chained steps last)
