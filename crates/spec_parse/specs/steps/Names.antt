-- How lists of names are read. It serves the proofs of the readers.
use Rattle.std.specs.Prelude.{ℕ, List}
use Rattle.ftn_tree.specs.declared.lexeme.Lexeme.TheVariants as lexeme
use Rattle.expr_parse.specs.steps.Input.{Reader, ◌>>=◌, ◌>>◌, pure, expect, name}
use Rattle.expr_parse.specs.steps.Combinators.{list_in_parens}

unfoldable pub dummies : Reader (List ℕ)
dummies = list_in_parens name

-- what is read in parentheses
abbrev pub between_parens : {A : Type 0} → Reader A → Reader A
between_parens read = expect lexeme.Open >> (read >>= (λ a. expect lexeme.Close >> pure a))
