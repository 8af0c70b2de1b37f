-- Operators (Fortran 90, 7.1.1).
use Rattle.std.specs.Prelude.{Option, Some, None}
use Rattle.ftn_tree.specs.declared.token.Token.{Token}
use Rattle.ftn_tree.specs.declared.lexeme.Lexeme.{Lexeme}
use Rattle.ftn_tree.specs.declared.lexeme.Lexeme.TheVariants as lexeme
use Rattle.ftn_tree.specs.declared.operator.Operator.{Operator}
use Rattle.ftn_tree.specs.declared.operator.Operator.TheVariants as operator
use Rattle.ftn_tree.specs.Lexemes.{lexeme_of}

abbrev pub operator_by : Lexeme → Option Operator
operator_by lexeme.Power = Some operator.Power
operator_by lexeme.Times = Some operator.Times
operator_by lexeme.Divide = Some operator.Divide
operator_by lexeme.Plus = Some operator.Plus
operator_by lexeme.Minus = Some operator.Minus
operator_by lexeme.Concat = Some operator.Concat
operator_by lexeme.Eq = Some operator.Eq
operator_by lexeme.Ne = Some operator.Ne
operator_by lexeme.Lt = Some operator.Lt
operator_by lexeme.Le = Some operator.Le
operator_by lexeme.Gt = Some operator.Gt
operator_by lexeme.Ge = Some operator.Ge
operator_by lexeme.Not = Some operator.Not
operator_by lexeme.And = Some operator.And
operator_by lexeme.Or = Some operator.Or
operator_by lexeme.Eqv = Some operator.Eqv
operator_by lexeme.Neqv = Some operator.Neqv
operator_by _ = None

-- the operator that a token is
abbrev pub operator_of : Token → Option Operator
operator_of here = operator_by (lexeme_of here)
