-- The operator that a binding names is the token's.
use Rattle.std.proofs.Common.{◌≡◌, ap, Some, option_map}
use Rattle.ftn_tree.specs.declared.lexeme.Lexeme.{Lexeme}
use Rattle.ftn_tree.specs.declared.lexeme.Lexeme.TheVariants as lexeme
use Rattle.ftn_tree.specs.Levels.{Binding, Prefix, between, before}
use Rattle.ftn_tree.specs.Operators.{operator_by}

pub binary_told : (kind : Lexeme) (how : Binding) → between kind ≡ Some how → operator_by kind ≡ Some how.operator
binary_told lexeme.Power how e = ap (option_map (λ (how : Binding). how.operator)) e
binary_told lexeme.Times how e = ap (option_map (λ (how : Binding). how.operator)) e
binary_told lexeme.Divide how e = ap (option_map (λ (how : Binding). how.operator)) e
binary_told lexeme.Plus how e = ap (option_map (λ (how : Binding). how.operator)) e
binary_told lexeme.Minus how e = ap (option_map (λ (how : Binding). how.operator)) e
binary_told lexeme.Concat how e = ap (option_map (λ (how : Binding). how.operator)) e
binary_told lexeme.Eq how e = ap (option_map (λ (how : Binding). how.operator)) e
binary_told lexeme.Ne how e = ap (option_map (λ (how : Binding). how.operator)) e
binary_told lexeme.Lt how e = ap (option_map (λ (how : Binding). how.operator)) e
binary_told lexeme.Le how e = ap (option_map (λ (how : Binding). how.operator)) e
binary_told lexeme.Gt how e = ap (option_map (λ (how : Binding). how.operator)) e
binary_told lexeme.Ge how e = ap (option_map (λ (how : Binding). how.operator)) e
binary_told lexeme.And how e = ap (option_map (λ (how : Binding). how.operator)) e
binary_told lexeme.Or how e = ap (option_map (λ (how : Binding). how.operator)) e
binary_told lexeme.Eqv how e = ap (option_map (λ (how : Binding). how.operator)) e
binary_told lexeme.Neqv how e = ap (option_map (λ (how : Binding). how.operator)) e
binary_told _ how e = absurd (cc e)

pub unary_told : (kind : Lexeme) (how : Prefix) → before kind ≡ Some how → operator_by kind ≡ Some how.operator
unary_told lexeme.Plus how e = ap (option_map (λ (how : Prefix). how.operator)) e
unary_told lexeme.Minus how e = ap (option_map (λ (how : Prefix). how.operator)) e
unary_told lexeme.Not how e = ap (option_map (λ (how : Prefix). how.operator)) e
unary_told _ how e = absurd (cc e)
