-- Lists of expressions in executable statements, as they are read. It serves the proof of the code.
use Rattle.std.specs.Prelude.{List, [], Option, Some, None}
use Rattle.ftn_tree.specs.declared.expr.Expr.{Expr}
use Rattle.ftn_tree.specs.declared.lexeme.Lexeme.TheVariants as lexeme
use Rattle.expr_parse.specs.steps.Input.{Reader, ◌>>=◌, ◌>>◌, pure, expect}
use Rattle.expr_parse.specs.steps.Combinators.{◌<$>◌, option_unless_done, separated, each_after_comma, list_in_parens}
use Rattle.expr_parse.specs.steps.Reading.{expression, reference}

abbrev pub none_or_all : {A : Type 0} → Option (List A) → List A
none_or_all None = []
none_or_all (Some all) = all

unfoldable pub condition : Reader Expr
condition = expect lexeme.Open >> (expression >>= (λ e. expect lexeme.Close >> pure e))

unfoldable pub arguments : Reader (List Expr)
arguments = list_in_parens expression

-- after `*`
unfoldable pub items_after_star : Reader (List Expr)
items_after_star = each_after_comma expression

unfoldable pub variables_after_star : Reader (List Expr)
variables_after_star = each_after_comma reference

-- after parentheses
unfoldable pub items : Reader (List Expr)
items = none_or_all <$> option_unless_done (separated expression)

unfoldable pub variables : Reader (List Expr)
variables = none_or_all <$> option_unless_done (separated reference)
