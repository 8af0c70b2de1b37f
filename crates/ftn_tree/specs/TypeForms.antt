-- How types are written (Fortran 90, 5.1.1).
use Rattle.std.specs.Prelude.{◌≡◌, ℕ, ℤ, Bool, true, false, codes}
use Rattle.ftn_tree.specs.declared.parts.TypeSpec.{TypeSpec}
use Rattle.ftn_tree.specs.declared.parts.TypeSpec.TheVariants.{Integer, Logical, Character}
use Rattle.ftn_tree.specs.declared.parts.LengthSelector.{LengthSelector}
use Rattle.ftn_tree.specs.declared.parts.LengthSelector.TheVariants as selector
use Rattle.ftn_tree.specs.declared.parts.CharLength.{CharLength}
use Rattle.ftn_tree.specs.declared.parts.CharLength.TheVariants as chars
use Rattle.ftn_tree.specs.declared.parts.LengthValue.{LengthValue}
use Rattle.ftn_tree.specs.declared.parts.LengthValue.TheVariants.{Assumed, Given}
use Rattle.ftn_tree.specs.declared.lexeme.Lexeme.TheVariants as lexeme
use Rattle.ftn_tree.specs.Phrases.{Phrase, ◌·◌, token, word, mark, maybe, in_parens}
use Rattle.ftn_tree.specs.Grammar.{IsNumber, expr}

-- a whole number, which has that number and that value
abbrev pub whole_number : ℕ → ℤ → Phrase
whole_number number value = token (λ at here. (number ≡ at) × IsNumber here value)

-- a length: `*` or an expression
abbrev pub length_value : LengthValue → Phrase
length_value Assumed = mark lexeme.Times
length_value (Given e) = expr e

-- what stands after `*`: a whole number or `( length )`
abbrev pub char_length : CharLength → Phrase
char_length (chars.Whole number value) = whole_number number value
char_length (chars.Paren length) = in_parens (length_value length)

-- `[LEN =] length`
abbrev pub paren_length : Bool → LengthValue → Phrase
paren_length true length = word (codes "len") · mark lexeme.Equals · length_value length
paren_length false length = length_value length

-- `* length` or `( [LEN =] length )`
abbrev pub length_selector : LengthSelector → Phrase
length_selector (selector.Star length) = mark lexeme.Times · char_length length
length_selector (selector.Paren has_word length) = in_parens (paren_length has_word length)

-- INTEGER, LOGICAL, CHARACTER with or without a length
abbrev pub type_text : TypeSpec → Phrase
type_text Integer = word (codes "integer")
type_text Logical = word (codes "logical")
type_text (Character length) = word (codes "character") · maybe length_selector length
