-- How DATA is read. It serves the proof of the code; what is promised stands in `ftn_tree`.
use Rattle.std.specs.Prelude.{ℕ, ℤ, zero, suc, Bool, true, false, ◌||◌, if◌then◌else◌, List, [], ◌∷◌, ◌++◌, length, codes, Option, Some, None}
use Rattle.ftn_tree.specs.declared.expr.Expr.{Expr, out-Expr}
use Rattle.ftn_tree.specs.declared.expr.Expr.TheOpen.{Expr-F}
use Rattle.ftn_tree.specs.Layers.{ExprLayer}
use Rattle.ftn_tree.specs.declared.form.Form.{Form}
use Rattle.ftn_tree.specs.declared.form.Form.TheVariants as form
use Rattle.ftn_tree.specs.declared.parts.Designator.{Designator}
use Rattle.ftn_tree.specs.declared.parts.Repeat.{Repeat}
use Rattle.ftn_tree.specs.declared.parts.Repeat.TheVariants as repeats
use Rattle.ftn_tree.specs.declared.parts.Sign.{Sign}
use Rattle.ftn_tree.specs.declared.parts.Sign.TheVariants.{Plus, Minus}
use Rattle.ftn_tree.specs.declared.parts.DataConstant.{DataConstant}
use Rattle.ftn_tree.specs.declared.parts.DataConstant.TheVariants as given
use Rattle.ftn_tree.specs.declared.parts.DataValue.{DataValue}
use Rattle.ftn_tree.specs.declared.parts.DataGroup.{DataGroup}
use Rattle.ftn_tree.specs.declared.lexeme.Lexeme.{Lexeme}
use Rattle.ftn_tree.specs.declared.lexeme.Lexeme.TheVariants as lexeme
use Rattle.expr_parse.specs.steps.Input.{Input, Reader, ◌>>=◌, ◌>>◌, eat, expect, expect_word, sees, peek_second, is_done, name}
use Rattle.expr_parse.specs.steps.Combinators.{◌<$>◌, ◌⊗◌, separated}
use Rattle.expr_parse.specs.steps.Reading.{constant}
use Rattle.spec_parse.specs.steps.Blocks.{designator}
use Rattle.spec_parse.specs.steps.Choices.{choose, choose_by, picked, closed_by}
use Rattle.spec_parse.specs.steps.Implicits.{whole_number}

-- ---- constants

abbrev pub sees_sign : Input → Bool
sees_sign i = sees lexeme.Plus i || sees lexeme.Minus i

abbrev pub plus : ℕ → Sign
plus number = Plus

abbrev pub minus : ℕ → Sign
minus number = Minus

unfoldable pub sign : Reader Sign
sign = choose_by lexeme.Plus (plus <$> expect lexeme.Plus) (minus <$> expect lexeme.Minus)

abbrev pub signed_of : Sign × (ℕ × ℤ) → DataConstant
signed_of parts = given.Whole (Some parts.0) parts.1.0 parts.1.1

unfoldable pub signed : Reader DataConstant
signed = signed_of <$> sign ⊗ whole_number

abbrev pub literal_at : ExprLayer → Option DataConstant
literal_at (Expr-F.Whole token value) = Some (given.Whole None token value)
literal_at (Expr-F.Truth token value) = Some (given.Truth token value)
literal_at (Expr-F.Quoted token value) = Some (given.Quoted token value)
literal_at _ = None

abbrev pub literal_of : Expr → Option DataConstant
literal_of found = literal_at (out-Expr found)

-- a token that is a constant by itself
unfoldable pub literal : Reader DataConstant
literal = picked literal_of constant

unfoldable pub unsigned : Reader DataConstant
unsigned = choose_by lexeme.Word (given.Named <$> name) literal

unfoldable pub data_constant : Reader DataConstant
data_constant = choose sees_sign signed unsigned

-- ---- values

abbrev pub whole_repeat : ℕ × ℤ → Repeat
whole_repeat both = repeats.Whole both.0 both.1

unfoldable pub repeat : Reader Repeat
repeat = choose_by lexeme.Word (repeats.Named <$> name) (whole_repeat <$> whole_number)

abbrev pub is_times_at : Option Lexeme → Bool
is_times_at (Some lexeme.Times) = true
is_times_at _ = false

-- `*` comes after the next token
abbrev pub is_repeated : Input → Bool
is_repeated i = is_times_at (peek_second i)

abbrev pub repeated_of : Repeat × DataConstant → DataValue
repeated_of parts = record { repeat = Some parts.0; constant = parts.1 }

unfoldable pub repeated : Reader DataValue
repeated = repeated_of <$> closed_by lexeme.Times repeat ⊗ data_constant

abbrev pub once : DataConstant → DataValue
once constant = record { repeat = None; constant = constant }

unfoldable pub data_value : Reader DataValue
data_value = choose is_repeated repeated (once <$> data_constant)

-- ---- groups

abbrev pub objects : Reader (List Designator)
objects = separated designator

abbrev pub values : Reader (List DataValue)
values = separated data_value

-- objects, and their values between slashes
unfoldable pub pairing : Reader (List Designator × List DataValue)
pairing = closed_by lexeme.Divide objects ⊗ closed_by lexeme.Divide values

abbrev pub group_of : Bool × (List Designator × List DataValue) → DataGroup
group_of parts = record { comma = parts.0; objects = parts.1.0; values = parts.1.1 }

abbrev pub first_of : List Designator × List DataValue → DataGroup
first_of both = group_of (false, both)

unfoldable pub first_group : Reader DataGroup
first_group = first_of <$> pairing

unfoldable pub later_group : Reader DataGroup
later_group = group_of <$> eat lexeme.Comma ⊗ pairing

-- what is left of the statement, added to what was found so far; the number bounds the turns
unfoldable pub each_from : {A : Type 0} → Reader A → ℕ → List A → Reader (List A)
each_from read zero found i = Some (found, i)
each_from read (suc n) found i = if is_done i then Some (found, i) else (read >>= (λ next. each_from read n (found ++ next ∷ []))) i

-- all groups, to the end of the statement, of which that is the first one
abbrev pub all_groups : DataGroup → Reader (List DataGroup)
all_groups first i = each_from later_group (length i.rest) (first ∷ []) i

abbrev pub groups : Reader (List DataGroup)
groups = first_group >>= all_groups

unfoldable pub data_row : Reader Form
data_row = form.Data <$> (expect_word (codes "data") >> groups)
