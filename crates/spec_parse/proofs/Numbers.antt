-- A whole number as a piece.
use Rattle.std.proofs.Common.{◌≡◌, refl, sym, ◌∙◌, ap, subst, ℕ, ◌≤◌, ℤ, pos, Bool, true, false, List, [], ◌∷◌, Option, Some, None, if◌then◌else◌}
use Rattle.std.specs.Prelude.{nat_le}
use Rattle.std.proofs.lemmas.Bool.{le-leb, leb-true}
use denote.Hole.Carrier
use Rattle.ftn_base.specs.Limits.{greatest_integer}
use Rattle.ftn_tree.specs.declared.token.Token.{Token}
use Rattle.ftn_tree.specs.declared.expr.Expr.{Expr, out-Expr}
use Rattle.ftn_tree.specs.declared.lexeme.Lexeme.{Lexeme}
use Rattle.ftn_tree.specs.declared.lexeme.Lexeme.TheVariants as lexeme
use Rattle.ftn_tree.specs.Lexemes.{lexeme_of}
use Rattle.ftn_tree.specs.Breaks.{number_of}
use Rattle.ftn_tree.specs.Grammar.{IsNumber}
use Rattle.ftn_tree.specs.Phrases.{Phrase}
use Rattle.ftn_tree.specs.TypeForms as written
use Rattle.expr_parse.specs.steps.Input.{Input, input, Reader, and_then, pure, expect, sees, taken_if}
use Rattle.expr_parse.specs.steps.Reading.{whole_value, whole_at, constant_by, take_one, constant}
use Rattle.expr_parse.proofs.Pieces.{Piece, reread}
use Rattle.expr_parse.proofs.Tokens.{is_same}
use Rattle.spec_parse.specs.steps.Implicits.{number_at, whole_number}
use Rattle.spec_parse.proofs.Either.{rephrased}
use Rattle.spec_parse.proofs.Valued.{valued, valued_phrase, taken, read_value}

abbrev pub number_by : Lexeme → List ℕ → Option ℤ
number_by lexeme.Whole text = whole_value text
number_by _ text = None

abbrev pub number_here : Token → Option ℤ
number_here here = number_by (lexeme_of here) here.value

abbrev pub pair : ℕ → ℤ → ℕ × ℤ
pair number value = (number, value)

kind_by : (kind : Lexeme) (text : List ℕ) (value : ℤ) → number_by kind text ≡ Some value → kind ≡ lexeme.Whole
kind_by lexeme.Whole text value is = refl
kind_by _ text value is = absurd (cc is)

pub whole_kind : (here : Token) (value : ℤ) → number_here here ≡ Some value → lexeme_of here ≡ lexeme.Whole
whole_kind here value is = kind_by (lexeme_of here) here.value value is

abbrev value_if : Bool → ℕ → Option ℤ
value_if small n = if small then Some (pos n) else None

digits_mean : (text : List ℕ) (value : ℤ) → whole_value text ≡ Some value → (value ≡ pos (number_of text)) × (number_of text ≤ greatest_integer)
unfolding whole_value
digits_mean text value is = by (nat_le (number_of text) greatest_integer) refl where
  by : (small : Bool) → nat_le (number_of text) greatest_integer ≡ small → (value ≡ pos (number_of text)) × (number_of text ≤ greatest_integer)
  by true small = let same : pos (number_of text) ≡ value = cc (sym (ap (λ small. value_if small (number_of text)) small) ∙ is) in (sym same, leb-true (number_of text) greatest_integer small)
  by false small = absurd (cc (sym (ap (λ small. value_if small (number_of text)) small) ∙ is))

means : (text : List ℕ) (value : ℤ) → value ≡ pos (number_of text) → number_of text ≤ greatest_integer → whole_value text ≡ Some value
unfolding whole_value
means text value is small = ap (λ small. value_if small (number_of text)) (le-leb (number_of text) greatest_integer small) ∙ ap Some (sym is)

whole_by : (here : Token) (kind : Lexeme) (value : ℤ) → lexeme_of here ≡ kind → number_by kind here.value ≡ Some value → IsNumber here value
whole_by here lexeme.Whole value is means = let (value_is, small) = digits_mean here.value value means in record { digits = is; value_is = value_is; small = small }
whole_by here _ value is means = absurd (cc means)

pub is_number : (here : Token) (value : ℤ) → number_here here ≡ Some value → IsNumber here value
is_number here value is = whole_by here (lexeme_of here) value refl is

pub number_is : (here : Token) (value : ℤ) → IsNumber here value → number_here here ≡ Some value
number_is here value number = ap (λ kind. number_by kind here.value) number.digits ∙ means here.value value number.value_is number.small

abbrev pub number_phrase : ℕ × ℤ → Phrase
number_phrase both = written.whole_number both.0 both.1

pub number_made : (both : ℕ × ℤ) (at : ℕ) (tokens : List Token) → valued_phrase lexeme.Whole number_here pair whole_kind both at tokens → written.whole_number both.0 both.1 at tokens
number_made both at tokens (here, split, (value, is, same)) =
    (here, split, (sym (ap (λ (both : ℕ × ℤ). both.0) same), is_number here both.1 (subst (λ value. number_here here ≡ Some value) (ap (λ (both : ℕ × ℤ). both.1) same) is)))

pub number_back : (both : ℕ × ℤ) (at : ℕ) (tokens : List Token) → written.whole_number both.0 both.1 at tokens → valued_phrase lexeme.Whole number_here pair whole_kind both at tokens
number_back both at tokens (here, split, (is_at, number)) = (here, split, (both.1, number_is here both.1 number, ap (λ number. pair number both.1) (sym is_at)))

abbrev of_expr : Expr → Reader (ℕ × ℤ)
of_expr found = number_at (out-Expr found)

abbrev take_number : Option ℤ → Reader (ℕ × ℤ)
take_number = taken lexeme.Whole number_here pair whole_kind

value_read : (value : Option ℤ) (at : ℕ) (here : Token) (rest : List Token) → lexeme_of here ≡ lexeme.Whole
    → and_then (take_one (whole_at at value) (input at (here ∷ rest))) of_expr ≡ take_number value (input at (here ∷ rest))
unfolding out-Expr denote.Hole.Carrier.out expect sees
value_read None at here rest is = refl
value_read (Some value) at here rest is = sym (ap (λ found. and_then (taken_if found (input at (here ∷ rest))) (λ number. pure (pair number value))) (is_same (lexeme_of here) lexeme.Whole is))

kind_read : (kind : Lexeme) (at : ℕ) (here : Token) (rest : List Token) → lexeme_of here ≡ kind
    → and_then (take_one (constant_by kind at here.value) (input at (here ∷ rest))) of_expr ≡ take_number (number_by kind here.value) (input at (here ∷ rest))
unfolding out-Expr denote.Hole.Carrier.out
kind_read lexeme.Whole at here rest is = value_read (whole_value here.value) at here rest is
kind_read _ at here rest is = refl

read_at : (at : ℕ) (rest : List Token) → whole_number (input at rest) ≡ read_value lexeme.Whole number_here pair whole_kind (input at rest)
unfolding whole_number constant
read_at at [] = refl
read_at at (here ∷ rest) = kind_read (lexeme_of here) at here rest refl

pub same_reader : (i : Input) → whole_number i ≡ read_value lexeme.Whole number_here pair whole_kind i
same_reader i = read_at i.at i.rest

abbrev pub number_piece : Piece (ℕ × ℤ)
number_piece = reread (rephrased (valued lexeme.Whole number_here pair whole_kind) number_phrase number_made number_back) whole_number same_reader
