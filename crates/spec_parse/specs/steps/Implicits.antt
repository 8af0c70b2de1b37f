-- How IMPLICIT statements are read. It serves the proofs of the readers.
use Rattle.std.specs.Prelude.{ℕ, ℤ, Bool, true, false, ◌&&◌, ◌||◌, nat_le, not, if◌then◌else◌, List, [], ◌∷◌, codes, Option, Some, None}
use Rattle.ftn_tree.specs.declared.token.Token.{Token}
use Rattle.ftn_tree.specs.declared.token.TokenKind.{TokenKind}
use Rattle.ftn_tree.specs.declared.token.TokenKind.TheVariants as kinds
use Rattle.ftn_tree.specs.declared.expr.Expr.{Expr, out-Expr}
use Rattle.ftn_tree.specs.declared.expr.Expr.TheOpen.{Expr-F}
use Rattle.ftn_tree.specs.declared.expr.Expr.TheVariants as e
use Rattle.ftn_tree.specs.declared.form.Form.{Form}
use Rattle.ftn_tree.specs.declared.form.Form.TheVariants as form
use Rattle.ftn_tree.specs.declared.lexeme.Lexeme.TheVariants as lexeme
use Rattle.ftn_tree.specs.declared.parts.ImplicitType.{ImplicitType}
use Rattle.ftn_tree.specs.declared.parts.ImplicitType.TheVariants.{Real, Known}
use Rattle.ftn_tree.specs.declared.parts.TypeSpec.TheVariants.{Integer, Logical, Character}
use Rattle.ftn_tree.specs.declared.parts.LengthSelector.{LengthSelector}
use Rattle.ftn_tree.specs.declared.parts.LengthSelector.TheVariants as selector
use Rattle.ftn_tree.specs.declared.parts.CharLength.TheVariants as chars
use Rattle.ftn_tree.specs.declared.parts.LengthValue.TheVariants.{Given}
use Rattle.ftn_tree.specs.declared.parts.LetterGroup.{LetterGroup}
use Rattle.ftn_tree.specs.declared.parts.LetterRange.{LetterRange}
use Rattle.ftn_tree.specs.Layers.{ExprLayer}
use Rattle.ftn_tree.specs.Lexemes.{lexeme_of, is_word, same_lexeme}
use Rattle.expr_parse.specs.steps.Input.{Reader, ◌>>=◌, ◌>>◌, pure, refuse, expect, expect_word, sees, sees_word}
use Rattle.expr_parse.specs.steps.Combinators.{◌<$>◌, ◌⊗◌, option_if, separated}
use Rattle.expr_parse.specs.steps.Reading.{constant}
use Rattle.spec_parse.specs.steps.Names.{between_parens}
use Rattle.spec_parse.specs.steps.Choices.{checked}

-- ---- lengths, which are whole numbers

abbrev pub number_at : ExprLayer → Reader (ℕ × ℤ)
number_at (Expr-F.Whole token value) i = Some ((token, value), i)
number_at _ i = None

-- a whole number's token and value
unfoldable pub whole_number : Reader (ℕ × ℤ)
whole_number = constant >>= (λ found. number_at (out-Expr found))

unfoldable pub given_number : Reader Expr
given_number = (λ number. e.Whole number.0 number.1) <$> whole_number

-- after `*`
unfoldable pub star_length : Reader LengthSelector
star_length i =
    if sees lexeme.Open i then ((λ length. selector.Star (chars.Paren (Given length))) <$> between_parens given_number) i
    else ((λ number. selector.Star (chars.Whole number.0 number.1)) <$> whole_number) i

-- `[LEN =] length`
unfoldable pub len_given : Reader (Bool × Expr)
len_given i =
    if sees lexeme.Word i then ((λ length. (true, length)) <$> (expect_word (codes "len") >> (expect lexeme.Equals >> given_number))) i
    else ((λ length. (false, length)) <$> given_number) i

unfoldable pub paren_length : Reader LengthSelector
paren_length = (λ parts. selector.Paren parts.0 (Given parts.1)) <$> between_parens len_given

abbrev pub is_length : Token → Bool
is_length here = same_lexeme (lexeme_of here) lexeme.Whole || is_word (codes "len") here

-- `* length` or a length in parentheses
unfoldable pub implicit_length : Reader LengthSelector
implicit_length i = if sees lexeme.Times i then (expect lexeme.Times >> star_length) i else paren_length i

unfoldable pub implicit_character : Reader ImplicitType
implicit_character = (λ length. Known (Character (Some length))) <$> (expect_word (codes "character") >> implicit_length)

unfoldable pub implicit_type : Reader ImplicitType
implicit_type i =
    if sees_word (codes "real") i then ((λ number. Real) <$> expect_word (codes "real")) i
    else if sees_word (codes "integer") i then ((λ number. Known Integer) <$> expect_word (codes "integer")) i
    else if sees_word (codes "logical") i then ((λ number. Known Logical) <$> expect_word (codes "logical")) i
    else implicit_character i

-- ---- letters

abbrev pub one_byte : List ℕ → Option ℕ
one_byte (byte ∷ []) = Some byte
one_byte _ = None

abbrev pub letter_by : TokenKind → List ℕ → Option ℕ
letter_by kinds.Word value = one_byte value
letter_by _ value = None

abbrev pub letter_at_front : List Token → Option ℕ
letter_at_front [] = None
letter_at_front (here ∷ rest) = letter_by here.kind here.value

abbrev pub taken_letter : Option ℕ → Reader (ℕ × ℕ)
taken_letter None = refuse
taken_letter (Some byte) = expect lexeme.Word >>= (λ number. pure (number, byte))

-- a word of one letter: its number and its letter
unfoldable pub letter : Reader (ℕ × ℕ)
letter i = taken_letter (letter_at_front i.rest) i

abbrev pub Ends : Type 0
Ends = (ℕ × ℕ) × Option (ℕ × ℕ)

-- the second letter is not before the first
abbrev pub in_order : ℕ → Option (ℕ × ℕ) → Bool
in_order first None = true
in_order first (Some last) = nat_le first last.1

abbrev pub number_of_last : Option (ℕ × ℕ) → Option ℕ
number_of_last None = None
number_of_last (Some last) = Some last.0

abbrev pub range_of : Ends → LetterRange
range_of ends = record { first = ends.0.0; last = number_of_last ends.1 }

unfoldable pub letter_range : Reader LetterRange
letter_range = range_of <$> checked (λ ends. in_order ends.0.1 ends.1) (letter ⊗ option_if lexeme.Minus (expect lexeme.Minus >> letter))

unfoldable pub listed_ranges : Reader (List LetterRange)
listed_ranges = separated letter_range

unfoldable pub ranges : Reader (List LetterRange)
ranges = between_parens listed_ranges

abbrev pub group_of : ImplicitType → List LetterRange → LetterGroup
group_of ty ranges = record { ty = ty; ranges = ranges }

-- CHARACTER without a length
unfoldable pub plain_group : Reader LetterGroup
plain_group = group_of (Known (Character None)) <$> (expect_word (codes "character") >> ranges)

unfoldable pub typed_group : Reader LetterGroup
typed_group = (λ parts. group_of parts.0 parts.1) <$> (implicit_type ⊗ ranges)

abbrev pub opens_letters : Token → Token → Bool
opens_letters here next = same_lexeme (lexeme_of here) lexeme.Open && not (is_length next)

abbrev pub is_plain_at : List Token → Bool
is_plain_at (here ∷ next ∷ third ∷ rest) = is_word (codes "character") here && opens_letters next third
is_plain_at _ = false

-- CHARACTER and letters in parentheses
unfoldable pub is_plain : List Token → Bool
is_plain tokens = is_plain_at tokens

unfoldable pub letter_group : Reader LetterGroup
letter_group i = if is_plain i.rest then plain_group i else typed_group i

unfoldable pub groups : Reader (List LetterGroup)
groups = separated letter_group

-- NONE, or the groups
unfoldable pub groups_or_none : Reader (Option (List LetterGroup))
groups_or_none i = if sees_word (codes "none") i then ((λ number. None) <$> expect_word (codes "none")) i else (Some <$> groups) i

unfoldable pub implicit : Reader Form
implicit = form.Implicit <$> (expect_word (codes "implicit") >> groups_or_none)
