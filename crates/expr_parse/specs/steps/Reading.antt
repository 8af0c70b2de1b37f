-- How expressions are read. It serves the proof of the code; what is promised stands in the grammar of `ftn_tree`.
use Rattle.std.specs.Prelude.{ℕ, zero, suc, ℤ, pos, true, false, nat_le, if◌then◌else◌, List, [], ◌∷◌, ◌++◌, length, Option, Some, None}
use Rattle.ftn_base.specs.Limits.{greatest_integer}
use Rattle.ftn_tree.specs.declared.token.Token.{Token}
use Rattle.ftn_tree.specs.declared.expr.Expr.{Expr}
use Rattle.ftn_tree.specs.declared.expr.Expr.TheVariants as e
use Rattle.ftn_tree.specs.declared.expr.Part.{Part}
use Rattle.ftn_tree.specs.declared.expr.Expr.TheViews.{roll-Part}
use Rattle.ftn_tree.specs.declared.lexeme.Lexeme.{Lexeme}
use Rattle.ftn_tree.specs.declared.lexeme.Lexeme.TheVariants as lexeme
use Rattle.ftn_tree.specs.Lexemes.{lexeme_of}
use Rattle.ftn_tree.specs.Levels.{Binding, Prefix, loosest}
use Rattle.ftn_tree.specs.Breaks.{number_of}
use Rattle.expr_parse.specs.steps.Input.{Reader, ◌>>=◌, ◌>>◌, pure, refuse, after, eat, sees, expect, name, peek}
use Rattle.expr_parse.specs.steps.Combinators.{◌<$>◌, each_after_comma_from, to_the_end}
use Rattle.expr_parse.specs.steps.Operators.{next_operator, next_sign, chained}

-- the number that digits mean, where it is small enough
unfoldable pub whole_value : List ℕ → Option ℤ
whole_value digits = if nat_le (number_of digits) greatest_integer then Some (pos (number_of digits)) else None

abbrev pub whole_at : ℕ → Option ℤ → Option Expr
whole_at at None = None
whole_at at (Some value) = Some (e.Whole at value)

abbrev pub constant_by : Lexeme → ℕ → List ℕ → Option Expr
constant_by lexeme.Whole at value = whole_at at (whole_value value)
constant_by lexeme.True at value = Some (e.Truth at true)
constant_by lexeme.False at value = Some (e.Truth at false)
constant_by lexeme.Quoted at value = Some (e.Quoted at value)
constant_by _ at value = None

abbrev pub take_one : {A : Type 0} → Option A → Reader A
take_one None i = None
take_one (Some a) i = Some (a, after i)

abbrev pub constant_in : List Token → Reader Expr
constant_in [] i = None
constant_in (here ∷ rest) i = take_one (constant_by (lexeme_of here) i.at here.value) i

-- a token that is a constant by itself
unfoldable pub constant : Reader Expr
constant i = constant_in i.rest i

-- The number is the greatest level of an expression.
module _ (read : ℕ → Reader Expr) where
  abbrev whole : Reader Expr
  whole = read loosest

  unfoldable pub parenthesized : Reader Expr
  parenthesized = expect lexeme.Open >>= (λ at. whole >>= (λ inner. expect lexeme.Close >> pure (e.Paren at inner)))

  -- a bound of a substring range, unless that token comes next
  unfoldable pub bound : Lexeme → Reader (Option Expr)
  bound until i = if sees until i then Some (None, i) else (Some <$> whole) i

  -- the rest of a substring range
  unfoldable pub part_from : Option Expr → Reader Part
  part_from low = expect lexeme.Colon >> bound lexeme.Close >>= (λ high. expect lexeme.Close >> pure (roll-Part (record { low = low; high = high })))

  -- what follows a list in parentheses
  unfoldable pub with_args : ℕ → List Expr → Reader Expr
  with_args number args =
      eat lexeme.Open >>= (λ has_part. if has_part
      then (bound lexeme.Colon >>= part_from >>= (λ part. pure (e.Refer number (Some args) (Some part))))
      else pure (e.Refer number (Some args) None))

  -- a list that begins so
  abbrev pub list_from : Expr → Reader (List Expr)
  list_from first i = each_after_comma_from whole (length i.rest) (first ∷ []) i

  -- the rest of a list in parentheses, and what follows it
  unfoldable pub args_from : ℕ → Expr → Reader Expr
  args_from number first = list_from first >>= (λ args. expect lexeme.Close >> with_args number args)

  abbrev pub with_part : ℕ → Option Expr → Reader Expr
  with_part number low = part_from low >>= (λ part. pure (e.Refer number None (Some part)))

  abbrev pub group_from : ℕ → Option Expr → Reader Expr
  group_from number None i = with_part number None i
  group_from number (Some first) i = if sees lexeme.Colon i then with_part number (Some first) i else args_from number first i

  -- after a name and `(`
  unfoldable pub group : ℕ → Reader Expr
  group number = eat lexeme.Close >>= (λ is_empty. if is_empty then with_args number [] else (bound lexeme.Colon >>= group_from number))

  unfoldable pub named : Reader Expr
  named = name >>= (λ number. eat lexeme.Open >>= (λ has_group. if has_group then group number else pure (e.Refer number None None)))

  abbrev pub primary_by : Option Lexeme → Reader Expr
  primary_by (Some lexeme.Word) = named
  primary_by (Some lexeme.Open) = parenthesized
  primary_by _ = constant

  unfoldable pub primary : Reader Expr
  primary i = primary_by (peek i) i

  -- a primary and the powers that it is raised to; the number bounds the turns
  unfoldable pub powers_from : ℕ → List (Expr × ℕ) → Reader Expr
  powers_from zero steps = refuse
  powers_from (suc n) steps =
      primary >>= (λ operand i. if sees lexeme.Power i then powers_from n (steps ++ (operand, i.at) ∷ []) (after i) else Some (chained steps operand, i))

  unfoldable pub powers : Reader Expr
  powers i = powers_from (length i.rest) [] i

  abbrev pub go_on : Option Binding → Expr → (Binding → Reader Expr) → Reader Expr
  go_on None left next i = Some (left, i)
  go_on (Some how) left next i = next how (after i)

  -- the operators that follow an operand of that own level, with their right operands; the first number bounds the turns
  unfoldable pub climb : ℕ → ℕ → ℕ → Expr → Reader Expr
  climb zero level own left i = Some (left, i)
  climb (suc n) level own left i =
      go_on (next_operator level own i) left (λ how. read how.right >>= (λ right. climb n level how.level (e.Binary i.at how.operator left right))) i

  unfoldable pub operators : ℕ → ℕ → Expr → Reader Expr
  operators level own left i = climb (length i.rest) level own left i

  abbrev pub level_by : ℕ → Option Prefix → Reader Expr
  level_by level None i = (powers >>= operators level 1) i
  level_by level (Some how) i = (read how.operand >>= (λ operand. operators level how.level (e.Unary i.at how.operator operand))) (after i)

  unfoldable pub level : ℕ → Reader Expr
  level most i = level_by most (next_sign most i) i

-- with expressions nested no deeper than the first number
unfoldable pub read : ℕ → ℕ → Reader Expr
read zero most = refuse
read (suc depth) most = level (read depth) most

-- an expression that is as long as possible: what is nested in it has fewer tokens
unfoldable pub expression : Reader Expr
expression i = read (length i.rest) loosest i

-- a name with what follows it
unfoldable pub reference : Reader Expr
reference i = named (read (length i.rest)) i

-- an expression, and no token more
unfoldable pub whole_expression : Reader Expr
whole_expression = to_the_end expression
