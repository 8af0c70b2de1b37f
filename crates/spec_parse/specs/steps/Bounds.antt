-- How bounds are read. It serves the proof of the code; what is promised stands in `ftn_tree`.
use Rattle.std.specs.Prelude.{ℕ, List, Option, Some, None}
use Rattle.ftn_tree.specs.declared.expr.Expr.{Expr}
use Rattle.ftn_tree.specs.declared.parts.BoundPair.{BoundPair}
use Rattle.ftn_tree.specs.declared.lexeme.Lexeme.TheVariants as lexeme
use Rattle.ftn_tree.specs.SpecificationForms.{are_dimensions}
use Rattle.expr_parse.specs.steps.Input.{Reader, ◌>>◌, expect}
use Rattle.expr_parse.specs.steps.Combinators.{◌<$>◌, ◌⊗◌, option_if, separated}
use Rattle.expr_parse.specs.steps.Reading.{expression}
use Rattle.spec_parse.specs.steps.Choices.{choose_by, checked, enclosed}

abbrev pub pair : Option Expr → Option Expr → BoundPair
pair low high = record { low = low; high = high }

abbrev pub no_bound : ℕ → Option Expr
no_bound number = None

-- `*` or an expression
unfoldable pub upper_bound : Reader (Option Expr)
upper_bound = choose_by lexeme.Times (no_bound <$> expect lexeme.Times) (Some <$> expression)

abbrev pub assumed : ℕ → BoundPair
assumed number = pair None None

-- an expression, and what stands after `:`
abbrev pub pair_of : Expr × Option (Option Expr) → BoundPair
pair_of (first, None) = pair None (Some first)
pair_of (first, Some high) = pair (Some first) high

-- `:` and what stands after it, where it comes next
unfoldable pub rest_of_bound : Reader (Option (Option Expr))
rest_of_bound = option_if lexeme.Colon (expect lexeme.Colon >> upper_bound)

unfoldable pub bound : Reader BoundPair
bound = choose_by lexeme.Times (assumed <$> expect lexeme.Times) (pair_of <$> (expression ⊗ rest_of_bound))

-- bounds in their parentheses
unfoldable pub bounds : Reader (List BoundPair)
bounds = checked are_dimensions (enclosed (separated bound))

-- bounds, where a parenthesis comes next
abbrev pub maybe_bounds : Reader (Option (List BoundPair))
maybe_bounds = option_if lexeme.Open bounds
