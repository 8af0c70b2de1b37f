-- How types are read. It serves the proof of the code; what is promised stands in `ftn_tree`.
use Rattle.std.specs.Prelude.{ℕ, ℤ, Bool, true, false, ◌&&◌, codes, Option, Some, None}
use Rattle.ftn_tree.specs.declared.expr.Expr.{Expr, out-Expr}
use Rattle.ftn_tree.specs.declared.expr.Expr.TheOpen.{Expr-F}
use Rattle.ftn_tree.specs.Layers.{ExprLayer}
use Rattle.ftn_tree.specs.declared.parts.TypeSpec.{TypeSpec}
use Rattle.ftn_tree.specs.declared.parts.TypeSpec.TheVariants.{Integer, Logical, Character}
use Rattle.ftn_tree.specs.declared.parts.LengthSelector.{LengthSelector}
use Rattle.ftn_tree.specs.declared.parts.LengthSelector.TheVariants as selector
use Rattle.ftn_tree.specs.declared.parts.CharLength.{CharLength}
use Rattle.ftn_tree.specs.declared.parts.CharLength.TheVariants as chars
use Rattle.ftn_tree.specs.declared.parts.LengthValue.{LengthValue}
use Rattle.ftn_tree.specs.declared.parts.LengthValue.TheVariants.{Assumed, Given}
use Rattle.ftn_tree.specs.declared.lexeme.Lexeme.{Lexeme}
use Rattle.ftn_tree.specs.declared.lexeme.Lexeme.TheVariants as lexeme
use Rattle.expr_parse.specs.steps.Input.{Input, Reader, ◌>>◌, expect, expect_word, sees_word, peek_second}
use Rattle.expr_parse.specs.steps.Combinators.{◌<$>◌, option_if}
use Rattle.expr_parse.specs.steps.Reading.{expression}
use Rattle.spec_parse.specs.steps.Choices.{choose, choose_by, choose_by_word, picked, enclosed}

abbrev pub assumed : ℕ → LengthValue
assumed number = Assumed

-- `*` or an expression
unfoldable pub length_value : Reader LengthValue
length_value = choose_by lexeme.Times (assumed <$> expect lexeme.Times) (Given <$> expression)

abbrev pub whole_at : ExprLayer → Option (ℕ × ℤ)
whole_at (Expr-F.Whole token value) = Some (token, value)
whole_at _ = None

-- the token and the value of an expression that is a whole number
abbrev pub whole_of : Expr → Option (ℕ × ℤ)
whole_of e = whole_at (out-Expr e)

abbrev pub whole_length : ℕ × ℤ → CharLength
whole_length both = chars.Whole both.0 both.1

-- what stands after `*`
unfoldable pub char_length : Reader CharLength
char_length = choose_by lexeme.Open (chars.Paren <$> enclosed length_value) (whole_length <$> picked whole_of expression)

abbrev pub is_equals_at : Option Lexeme → Bool
is_equals_at (Some lexeme.Equals) = true
is_equals_at _ = false

-- LEN and `=` come next
unfoldable pub sees_len : Input → Bool
sees_len i = sees_word (codes "len") i && is_equals_at (peek_second i)

-- `[LEN =] length`
unfoldable pub len_selector : Reader LengthSelector
len_selector = choose sees_len
    (selector.Paren true <$> (expect_word (codes "len") >> (expect lexeme.Equals >> length_value)))
    (selector.Paren false <$> length_value)

abbrev pub star_selector : CharLength → Option LengthSelector
star_selector length = Some (selector.Star length)

-- what stands after CHARACTER
unfoldable pub length_selector : Reader (Option LengthSelector)
length_selector = choose_by lexeme.Times (star_selector <$> (expect lexeme.Times >> char_length))
    (option_if lexeme.Open (enclosed len_selector))

abbrev pub integer : ℕ → TypeSpec
integer number = Integer

abbrev pub logical : ℕ → TypeSpec
logical number = Logical

-- LOGICAL or CHARACTER
unfoldable pub other_type : Reader TypeSpec
other_type = choose_by_word (codes "logical") (logical <$> expect_word (codes "logical"))
    (Character <$> (expect_word (codes "character") >> length_selector))

unfoldable pub type_spec : Reader TypeSpec
type_spec = choose_by_word (codes "integer") (integer <$> expect_word (codes "integer")) other_type
