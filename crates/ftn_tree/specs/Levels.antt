-- How tightly operators bind (Fortran 90, 7.1.1.2 to 7.1.1.7, 7.1.3). A primary has level 0, an expression at most level 9;
-- what binds more loosely has a greater level.
use Rattle.std.specs.Prelude.{ℕ, Option, Some, None}
use Rattle.ftn_tree.specs.declared.lexeme.Lexeme.{Lexeme}
use Rattle.ftn_tree.specs.declared.operator.Operator.{Operator}
use Rattle.ftn_tree.specs.declared.operator.Operator.TheVariants.{Power, Times, Divide, Plus, Minus, Concat, Eq, Ne, Lt, Le, Gt, Ge, Not, And, Or, Eqv, Neqv}
use Rattle.ftn_tree.specs.Operators.{operator_by}

-- an operator between two operands: the level of what it makes, and the greatest levels of its operands
pub record Binding : Type 0 where
  pub operator : Operator
  pub level : ℕ
  pub left : ℕ
  pub right : ℕ

abbrev pub binding : Operator → ℕ → ℕ → ℕ → Option Binding
binding operator level left right = Some (record { operator = operator; level = level; left = left; right = right })

-- where the left operand may have the operator's own level, it associates to the left; `**` to the right; a relation has operands
-- that are no relations
abbrev pub binding_of : Operator → Option Binding
binding_of Power = binding Power 1 0 1
binding_of Times = binding Times 2 2 1
binding_of Divide = binding Divide 2 2 1
binding_of Plus = binding Plus 3 3 2
binding_of Minus = binding Minus 3 3 2
binding_of Concat = binding Concat 4 4 3
binding_of Eq = binding Eq 5 4 4
binding_of Ne = binding Ne 5 4 4
binding_of Lt = binding Lt 5 4 4
binding_of Le = binding Le 5 4 4
binding_of Gt = binding Gt 5 4 4
binding_of Ge = binding Ge 5 4 4
binding_of And = binding And 7 7 6
binding_of Or = binding Or 8 8 7
binding_of Eqv = binding Eqv 9 9 8
binding_of Neqv = binding Neqv 9 9 8
binding_of Not = None

abbrev pub between_by : Option Operator → Option Binding
between_by None = None
between_by (Some operator) = binding_of operator

-- how a token binds between two operands
abbrev pub between : Lexeme → Option Binding
between kind = between_by (operator_by kind)

-- an operator before an operand: the level of what it makes, and the greatest level of the operand
pub record Prefix : Type 0 where
  pub operator : Operator
  pub level : ℕ
  pub operand : ℕ

abbrev pub prefix : Operator → ℕ → ℕ → Option Prefix
prefix operator level operand = Some (record { operator = operator; level = level; operand = operand })

-- a sign stands before the first operand of a sum alone, and one `.NOT.` at most before an operand of its level
abbrev pub prefix_of : Operator → Option Prefix
prefix_of Plus = prefix Plus 3 2
prefix_of Minus = prefix Minus 3 2
prefix_of Not = prefix Not 6 5
prefix_of _ = None

abbrev pub before_by : Option Operator → Option Prefix
before_by None = None
before_by (Some operator) = prefix_of operator

-- how a token binds before an operand
abbrev pub before : Lexeme → Option Prefix
before kind = before_by (operator_by kind)

abbrev pub loosest : ℕ
loosest = 9
