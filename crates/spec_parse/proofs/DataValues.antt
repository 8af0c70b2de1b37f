-- The values of DATA are read as they are written.
use Rattle.std.proofs.Common.{◌≡◌, refl, sym, ◌∙◌, ap, subst, ℕ, ℤ, Bool, true, false, ◌||◌, List, [], ◌∷◌, ◌++◌, Option, Some, None, ◌⊎◌, inl, inr}
use Rattle.std.proofs.lemmas.Option.{same_Some}
use denote.Hole.Carrier
use Rattle.ftn_tree.specs.declared.token.Token.{Token}
use Rattle.ftn_tree.specs.declared.expr.Expr.{out-Expr}
use Rattle.ftn_tree.specs.declared.parts.Repeat.{Repeat}
use Rattle.ftn_tree.specs.declared.parts.Repeat.TheVariants as repeats
use Rattle.ftn_tree.specs.declared.parts.Sign.{Sign}
use Rattle.ftn_tree.specs.declared.parts.Sign.TheVariants as signs
use Rattle.ftn_tree.specs.declared.parts.DataConstant.{DataConstant}
use Rattle.ftn_tree.specs.declared.parts.DataConstant.TheVariants as constants
use Rattle.ftn_tree.specs.declared.parts.DataValue.{DataValue}
use Rattle.ftn_tree.specs.declared.lexeme.Lexeme.{Lexeme}
use Rattle.ftn_tree.specs.declared.lexeme.Lexeme.TheVariants as lexeme
use Rattle.ftn_tree.specs.declared.lexeme.Lexeme.TheVariants.{Word, Whole, Quoted, True, False, Plus, Minus, Times}
use Rattle.ftn_tree.specs.Lexemes.{lexeme_of, same_lexeme}
use Rattle.ftn_tree.specs.Phrases.{Phrase, never, ◌·◌, token, mark, mark_at, name, maybe}
use Rattle.ftn_tree.specs.Grammar.{truth_lexeme}
use Rattle.ftn_tree.specs.TypeForms.{whole_number}
use Rattle.ftn_tree.specs.SpecificationForms as form
use Rattle.expr_parse.specs.steps.Input.{Input, input, and_then, sees, peek_second}
use Rattle.expr_parse.specs.steps.Combinators.{◌<$>◌}
use Rattle.expr_parse.specs.steps.Reading.{whole_value, whole_at, constant_by, take_one, constant}
use Rattle.expr_parse.proofs.Pieces.{Piece, Apart, begins, reread, seq}
use Rattle.expr_parse.proofs.AllKinds.{apart, within}
use Rattle.expr_parse.proofs.Tokens.{only, none_of, mark_piece, name_piece, bare_made, bare_back, before_mark}
use Rattle.spec_parse.specs.steps.Choices.{given}
use Rattle.spec_parse.specs.steps.Data as spec
use Rattle.spec_parse.proofs.Choices.{choice, chosen_plain}
use Rattle.spec_parse.proofs.Either.{rephrased}
use Rattle.spec_parse.proofs.Numbers.{number_by, is_number, number_is, number_phrase, number_piece}
use Rattle.ftn_tree.proofs.PhraseLaws.{add_none, drop_none}
use Rattle.spec_parse.proofs.Seen.{seen, unseen}
use Rattle.spec_parse.proofs.Told.{told, told_phrase}
use Rattle.spec_parse.proofs.TypePieces.{itself}
use Rattle.spec_parse.proofs.Lengths.{whole_no_word}

-- ---- signs

pub sign_back : (c : Sign) (at : ℕ) (tokens : List Token) → form.sign c at tokens → ((n : ℕ) × (spec.plus n ≡ c) × mark_at n Plus at tokens) ⊎ ((n : ℕ) × (spec.minus n ≡ c) × mark_at n Minus at tokens)
sign_back signs.Plus at tokens says = let (n, says_n) = bare_back Plus at tokens says in inl (n, refl, says_n)
sign_back signs.Minus at tokens says = let (n, says_n) = bare_back Minus at tokens says in inr (n, refl, says_n)

pub minus_no_plus : Apart (only Minus) (only Plus)
unfolding same_lexeme
minus_no_plus = apart (only Minus) (only Plus) refl

abbrev sign_choice : Piece Sign
sign_choice = choice (sees Plus) (mark_piece Plus) spec.plus (mark_piece Minus) spec.minus form.sign (bare_made Plus) (bare_made Minus) sign_back none_of
    (seen (mark_piece Plus) Plus refl (itself Plus)) (unseen (mark_piece Minus) Plus refl minus_no_plus)

pub sign_read : (i : Input) → spec.sign i ≡ sign_choice.read i
unfolding spec.sign
sign_read i = refl

abbrev sign_piece : Piece Sign
sign_piece = reread sign_choice spec.sign sign_read

pub whole_no_sign : Apart (only Whole) sign_piece.more
whole_no_sign kind e = refl

abbrev signed_parts : Piece (Sign × (ℕ × ℤ))
signed_parts = seq sign_piece number_piece whole_no_sign

-- ---- literal constants

abbrev literal_text : DataConstant → Phrase
literal_text (constants.Whole None number value) = whole_number number value
literal_text (constants.Whole (Some sign) number value) = never
literal_text (constants.Truth number value) = mark_at number (truth_lexeme value)
literal_text (constants.Quoted number value) = token (λ at here. (number ≡ at) × (lexeme_of here ≡ lexeme.Quoted) × (value ≡ here.value))
literal_text (constants.Named number) = never

abbrev whole_literal : ℕ → Option ℤ → Option DataConstant
whole_literal at None = None
whole_literal at (Some value) = Some (constants.Whole None at value)

abbrev literal_by : Lexeme → ℕ → List ℕ → Option DataConstant
literal_by lexeme.Whole at text = whole_literal at (whole_value text)
literal_by lexeme.True at text = Some (constants.Truth at true)
literal_by lexeme.False at text = Some (constants.Truth at false)
literal_by lexeme.Quoted at text = Some (constants.Quoted at text)
literal_by _ at text = None

abbrev literal_here : ℕ → Token → Option DataConstant
literal_here at here = literal_by (lexeme_of here) at here.value

abbrev is_literal : Lexeme → Bool
is_literal lexeme.Whole = true
is_literal lexeme.True = true
is_literal lexeme.False = true
is_literal lexeme.Quoted = true
is_literal _ = false

kind_by : (kind : Lexeme) (at : ℕ) (text : List ℕ) (c : DataConstant) → literal_by kind at text ≡ Some c → is_literal kind ≡ true
kind_by lexeme.Whole at text c e = refl
kind_by lexeme.True at text c e = refl
kind_by lexeme.False at text c e = refl
kind_by lexeme.Quoted at text c e = refl
kind_by _ at text c e = absurd (cc e)

pub literal_kind : (at : ℕ) (here : Token) (c : DataConstant) → literal_here at here ≡ Some c → is_literal (lexeme_of here) ≡ true
literal_kind at here c e = kind_by (lexeme_of here) at here.value c e

abbrev told_literal : Piece DataConstant
told_literal = told literal_here is_literal literal_kind

whole_says : (here : Token) (at : ℕ) (c : DataConstant) → lexeme_of here ≡ Whole → (value : Option ℤ) → whole_value here.value ≡ value → whole_literal at value ≡ Some c → literal_text c at (here ∷ [])
whole_says here at c kind None is e = absurd (cc e)
whole_says here at c kind (Some value) is e =
    subst (λ c. literal_text c at (here ∷ [])) (same_Some (constants.Whole None at value) c e)
    (here, refl, (refl, is_number here value (ap (λ kind. number_by kind here.value) kind ∙ is)))

literal_says : (kind : Lexeme) (here : Token) (at : ℕ) (c : DataConstant) → lexeme_of here ≡ kind → literal_by kind at here.value ≡ Some c → literal_text c at (here ∷ [])
literal_says lexeme.Whole here at c is e = whole_says here at c is (whole_value here.value) refl e
literal_says lexeme.True here at c is e = subst (λ c. literal_text c at (here ∷ [])) (same_Some (constants.Truth at true) c e) (here, refl, (refl, is))
literal_says lexeme.False here at c is e = subst (λ c. literal_text c at (here ∷ [])) (same_Some (constants.Truth at false) c e) (here, refl, (refl, is))
literal_says lexeme.Quoted here at c is e = subst (λ c. literal_text c at (here ∷ [])) (same_Some (constants.Quoted at here.value) c e) (here, refl, (refl, is, refl))
literal_says _ here at c is e = absurd (cc e)

pub literal_made : (c : DataConstant) (at : ℕ) (tokens : List Token) → told_phrase literal_here is_literal literal_kind c at tokens → literal_text c at tokens
literal_made c at tokens (here, split, is) = subst (λ tokens. literal_text c at tokens) (sym split) (literal_says (lexeme_of here) here at c refl is)

by_kind : (kind : Lexeme) (at : ℕ) (here : Token) → lexeme_of here ≡ kind → literal_here at here ≡ literal_by kind at here.value
by_kind kind at here is = ap (λ kind. literal_by kind at here.value) is

pub literal_back : (c : DataConstant) (at : ℕ) (tokens : List Token) → literal_text c at tokens → told_phrase literal_here is_literal literal_kind c at tokens
literal_back (constants.Whole None number value) at tokens (here, split, (is_at, is)) =
    let means : whole_value here.value ≡ Some value = sym (ap (λ kind. number_by kind here.value) is.digits) ∙ number_is here value is in
    (here, split, by_kind Whole at here is.digits ∙ ap (whole_literal at) means ∙ ap (λ number. Some (constants.Whole None number value)) (sym is_at))
literal_back (constants.Whole (Some sign) number value) at tokens says = absurd says
literal_back (constants.Truth number true) at tokens (here, split, (is_at, is)) = (here, split, by_kind True at here is ∙ ap (λ number. Some (constants.Truth number true)) (sym is_at))
literal_back (constants.Truth number false) at tokens (here, split, (is_at, is)) = (here, split, by_kind False at here is ∙ ap (λ number. Some (constants.Truth number false)) (sym is_at))
literal_back (constants.Quoted number value) at tokens (here, split, (is_at, is, value_is)) =
    (here, split, by_kind Quoted at here is ∙ ap (λ number. Some (constants.Quoted number here.value)) (sym is_at) ∙ ap (λ value. Some (constants.Quoted number value)) (sym value_is))
literal_back (constants.Named number) at tokens says = absurd says

value_read : (value : Option ℤ) (at : ℕ) (here : Token) (rest : List Token)
    → and_then (take_one (whole_at at value) (input at (here ∷ rest))) (λ a. given (spec.literal_of a)) ≡ take_one (whole_literal at value) (input at (here ∷ rest))
unfolding out-Expr denote.Hole.Carrier.out
value_read None at here rest = refl
value_read (Some value) at here rest = refl

kind_read : (kind : Lexeme) (at : ℕ) (here : Token) (rest : List Token)
    → and_then (take_one (constant_by kind at here.value) (input at (here ∷ rest))) (λ a. given (spec.literal_of a)) ≡ take_one (literal_by kind at here.value) (input at (here ∷ rest))
unfolding out-Expr denote.Hole.Carrier.out
kind_read lexeme.Whole at here rest = value_read (whole_value here.value) at here rest
kind_read lexeme.True at here rest = refl
kind_read lexeme.False at here rest = refl
kind_read lexeme.Quoted at here rest = refl
kind_read _ at here rest = refl

literal_at : (at : ℕ) (rest : List Token) → spec.literal (input at rest) ≡ told_literal.read (input at rest)
unfolding spec.literal constant
literal_at at [] = refl
literal_at at (here ∷ rest) = kind_read (lexeme_of here) at here rest

pub literal_read : (i : Input) → spec.literal i ≡ told_literal.read i
literal_read i = literal_at i.at i.rest

abbrev literal_piece : Piece DataConstant
literal_piece = reread (rephrased told_literal literal_text literal_made literal_back) spec.literal literal_read

-- ---- constants without a sign

abbrev unsigned_text : DataConstant → Phrase
unsigned_text (constants.Whole None number value) = whole_number number value
unsigned_text (constants.Whole (Some sign) number value) = never
unsigned_text (constants.Truth number value) = mark_at number (truth_lexeme value)
unsigned_text (constants.Quoted number value) = token (λ at here. (number ≡ at) × (lexeme_of here ≡ lexeme.Quoted) × (value ≡ here.value))
unsigned_text (constants.Named number) = name number

pub literal_unsigned : (c : DataConstant) (at : ℕ) (tokens : List Token) → literal_text c at tokens → unsigned_text c at tokens
literal_unsigned (constants.Whole None number value) at tokens says = says
literal_unsigned (constants.Whole (Some sign) number value) at tokens says = absurd says
literal_unsigned (constants.Truth number value) at tokens says = says
literal_unsigned (constants.Quoted number value) at tokens says = says
literal_unsigned (constants.Named number) at tokens says = absurd says

pub unsigned_back : (c : DataConstant) (at : ℕ) (tokens : List Token) → unsigned_text c at tokens
    → ((n : ℕ) × (constants.Named n ≡ c) × name n at tokens) ⊎ ((b : DataConstant) × (b ≡ c) × literal_text b at tokens)
unsigned_back (constants.Whole None number value) at tokens says = inr (constants.Whole None number value, refl, says)
unsigned_back (constants.Whole (Some sign) number value) at tokens says = absurd says
unsigned_back (constants.Truth number value) at tokens says = inr (constants.Truth number value, refl, says)
unsigned_back (constants.Quoted number value) at tokens says = inr (constants.Quoted number value, refl, says)
unsigned_back (constants.Named number) at tokens says = inl (number, refl, says)

pub literal_no_word : Apart is_literal (only Word)
unfolding same_lexeme
literal_no_word = apart is_literal (only Word) refl

abbrev unsigned_choice : Piece DataConstant
unsigned_choice = choice (sees Word) name_piece constants.Named literal_piece (λ c. c) unsigned_text (λ n at tokens says. says) literal_unsigned unsigned_back none_of
    (seen name_piece Word refl (itself Word)) (unseen literal_piece Word refl literal_no_word)

pub unsigned_read : (i : Input) → spec.unsigned i ≡ unsigned_choice.read i
unfolding spec.unsigned
unsigned_read i = chosen_plain (sees Word) (constants.Named <$> name_piece.read) literal_piece.read i

abbrev unsigned_piece : Piece DataConstant
unsigned_piece = reread unsigned_choice spec.unsigned unsigned_read

-- ---- all constants

pub unsigned_made : (c : DataConstant) (at : ℕ) (tokens : List Token) → unsigned_text c at tokens → form.data_constant c at tokens
unsigned_made (constants.Whole None number value) at tokens says = add_none (whole_number number value) at tokens says
unsigned_made (constants.Whole (Some sign) number value) at tokens says = absurd says
unsigned_made (constants.Truth number value) at tokens says = says
unsigned_made (constants.Quoted number value) at tokens says = says
unsigned_made (constants.Named number) at tokens says = says

pub constant_back : (c : DataConstant) (at : ℕ) (tokens : List Token) → form.data_constant c at tokens
    → ((a : Sign × (ℕ × ℤ)) × (spec.signed_of a ≡ c) × signed_parts.phrase a at tokens) ⊎ ((b : DataConstant) × (b ≡ c) × unsigned_text b at tokens)
constant_back (constants.Whole None number value) at tokens says = inr (constants.Whole None number value, refl, drop_none (whole_number number value) at tokens says)
constant_back (constants.Whole (Some sign) number value) at tokens says = inl ((sign, (number, value)), refl, says)
constant_back (constants.Truth number value) at tokens says = inr (constants.Truth number value, refl, says)
constant_back (constants.Quoted number value) at tokens says = inr (constants.Quoted number value, refl, says)
constant_back (constants.Named number) at tokens says = inr (constants.Named number, refl, says)

abbrev is_sign : Lexeme → Bool
is_sign kind = only Plus kind || only Minus kind

sign_at : (at : ℕ) (tokens : List Token) → spec.sees_sign (input at tokens) ≡ begins is_sign tokens
unfolding sees
sign_at at [] = refl
sign_at at (here ∷ rest) = refl

begins_sign : (first : Lexeme → Bool) (tokens rest : List Token) → ((kind : Lexeme) → first kind ≡ true → is_sign kind ≡ true) → begins first tokens ≡ true → begins is_sign (tokens ++ rest) ≡ true
begins_sign first [] rest within e = absurd (cc e)
begins_sign first (here ∷ tokens) rest within e = within (lexeme_of here) e

begins_no_sign : (first : Lexeme → Bool) (tokens rest : List Token) → Apart first is_sign → begins first tokens ≡ true → begins is_sign (tokens ++ rest) ≡ false
begins_no_sign first [] rest apart e = absurd (cc e)
begins_no_sign first (here ∷ tokens) rest apart e = apart (lexeme_of here) e

signs_first : (kind : Lexeme) → signed_parts.first kind ≡ true → is_sign kind ≡ true
unfolding same_lexeme
signs_first = within signed_parts.first is_sign refl

unsigned_no_sign : Apart unsigned_piece.first is_sign
unfolding same_lexeme
unsigned_no_sign = apart unsigned_piece.first is_sign refl

pub shows_sign : (a : Sign × (ℕ × ℤ)) (at : ℕ) (tokens rest : List Token) → signed_parts.phrase a at tokens → begins signed_parts.more rest ≡ false → spec.sees_sign (input at (tokens ++ rest)) ≡ true
shows_sign a at tokens rest says stops = by (signed_parts.begun a at tokens says) where
  by : (begins signed_parts.first tokens ≡ true) ⊎ ((tokens ≡ []) × (signed_parts.empty ≡ true)) → spec.sees_sign (input at (tokens ++ rest)) ≡ true
  by (inl e) = sign_at at (tokens ++ rest) ∙ begins_sign signed_parts.first tokens rest signs_first e
  by (inr none) = absurd (cc none.1)

pub hides_sign : (c : DataConstant) (at : ℕ) (tokens rest : List Token) → unsigned_text c at tokens → begins unsigned_piece.more rest ≡ false → begins none_of rest ≡ false → spec.sees_sign (input at (tokens ++ rest)) ≡ false
hides_sign c at tokens rest says stops none = by (unsigned_piece.begun c at tokens says) where
  by : (begins unsigned_piece.first tokens ≡ true) ⊎ ((tokens ≡ []) × (unsigned_piece.empty ≡ true)) → spec.sees_sign (input at (tokens ++ rest)) ≡ false
  by (inl e) = sign_at at (tokens ++ rest) ∙ begins_no_sign unsigned_piece.first tokens rest unsigned_no_sign e
  by (inr empty) = absurd (cc empty.1)

abbrev constant_choice : Piece DataConstant
constant_choice = choice spec.sees_sign signed_parts spec.signed_of unsigned_piece (λ c. c) form.data_constant (λ a at tokens says. says) unsigned_made constant_back none_of shows_sign hides_sign

pub constant_read : (i : Input) → spec.data_constant i ≡ constant_choice.read i
unfolding spec.data_constant spec.signed
constant_read i = chosen_plain spec.sees_sign (spec.signed_of <$> signed_parts.read) unsigned_piece.read i

abbrev pub constant_piece : Piece DataConstant
constant_piece = reread constant_choice spec.data_constant constant_read

-- ---- repeats

pub repeat_back : (c : Repeat) (at : ℕ) (tokens : List Token) → form.repeat c at tokens → ((n : ℕ) × (repeats.Named n ≡ c) × name n at tokens) ⊎ ((b : ℕ × ℤ) × (spec.whole_repeat b ≡ c) × number_phrase b at tokens)
repeat_back (repeats.Whole number value) at tokens says = inr ((number, value), refl, says)
repeat_back (repeats.Named number) at tokens says = inl (number, refl, says)

abbrev repeat_choice : Piece Repeat
repeat_choice = choice (sees Word) name_piece repeats.Named number_piece spec.whole_repeat form.repeat (λ n at tokens says. says) (λ b at tokens says. says) repeat_back none_of
    (seen name_piece Word refl (itself Word)) (unseen number_piece Word refl whole_no_word)

pub repeat_read : (i : Input) → spec.repeat i ≡ repeat_choice.read i
unfolding spec.repeat
repeat_read i = refl

abbrev repeat_piece : Piece Repeat
repeat_piece = reread repeat_choice spec.repeat repeat_read

pub times_no_repeat : Apart (only Times) repeat_piece.more
times_no_repeat kind e = refl

abbrev times_piece : Piece Repeat
times_piece = before_mark repeat_piece Times times_no_repeat

pub constant_no_times : Apart constant_piece.first times_piece.more
constant_no_times kind e = refl

abbrev repeated_parts : Piece (Repeat × DataConstant)
repeated_parts = seq times_piece constant_piece constant_no_times

-- ---- values

pub once_made : (c : DataConstant) (at : ℕ) (tokens : List Token) → form.data_constant c at tokens → form.data_value (spec.once c) at tokens
once_made c at tokens says = add_none (form.data_constant c) at tokens says

value_back_by : (often : Option Repeat) (c : DataConstant) (at : ℕ) (tokens : List Token) → (maybe (λ often. form.repeat often · mark Times) often · form.data_constant c) at tokens
    → ((a : Repeat × DataConstant) × (◌≡◌ {A = DataValue} (spec.repeated_of a) (record { repeat = often; constant = c })) × repeated_parts.phrase a at tokens)
    ⊎ ((b : DataConstant) × (◌≡◌ {A = DataValue} (spec.once b) (record { repeat = often; constant = c })) × form.data_constant b at tokens)
value_back_by None c at tokens says = inr (c, refl, drop_none (form.data_constant c) at tokens says)
value_back_by (Some often) c at tokens says = inl ((often, c), refl, says)

pub value_back : (v : DataValue) (at : ℕ) (tokens : List Token) → form.data_value v at tokens
    → ((a : Repeat × DataConstant) × (spec.repeated_of a ≡ v) × repeated_parts.phrase a at tokens) ⊎ ((b : DataConstant) × (spec.once b ≡ v) × form.data_constant b at tokens)
value_back v at tokens says = value_back_by v.repeat v.constant at tokens says

-- the second token is `*`
times_second : (one two : Token) (at : ℕ) (rest : List Token) → spec.is_times_at (Some (lexeme_of two)) ≡ spec.is_repeated (input at (one ∷ two ∷ rest))
unfolding peek_second
times_second one two at rest = refl

is_times : (two : Token) → lexeme_of two ≡ Times → spec.is_times_at (Some (lexeme_of two)) ≡ true
is_times two is = ap (λ kind. spec.is_times_at (Some kind)) is

repeat_one : (r : Repeat) (at : ℕ) (tokens : List Token) → form.repeat r at tokens → (here : Token) × (tokens ≡ here ∷ [])
repeat_one (repeats.Whole number value) at tokens (here, split, is) = (here, split)
repeat_one (repeats.Named number) at tokens (here, split, is) = (here, split)

pub shows_times : (a : Repeat × DataConstant) (at : ℕ) (tokens rest : List Token) → repeated_parts.phrase a at tokens → begins repeated_parts.more rest ≡ false → spec.is_repeated (input at (tokens ++ rest)) ≡ true
shows_times a at tokens rest (both, after, split, (before, last, split_both, says_repeat, (star, is_one, is_star)), says) stops =
    let (here, alone) = repeat_one a.0 at before says_repeat in
    subst (λ tokens. spec.is_repeated (input at (tokens ++ rest)) ≡ true)
    (sym (split ∙ ap (λ both. both ++ after) (split_both ∙ ap (λ before. before ++ last) alone ∙ ap (λ last. here ∷ last) is_one)))
    (sym (times_second here star at (after ++ rest)) ∙ is_times star is_star)

-- one token by itself, before something other than `*`
one_no_times : (here : Token) (at : ℕ) (rest : List Token) → begins (only Times) rest ≡ false → spec.is_repeated (input at (here ∷ rest)) ≡ false
unfolding peek_second same_lexeme
one_no_times here at [] stops = refl
one_no_times here at (next ∷ rest) stops = by (lexeme_of next) stops where
  by : (kind : Lexeme) → only Times kind ≡ false → spec.is_times_at (Some kind) ≡ false
  by lexeme.Times e = absurd (cc e)
  by _ e = refl

alone_no_times : (here : Token) (at : ℕ) (tokens rest : List Token) → tokens ≡ here ∷ [] → begins (only Times) rest ≡ false → spec.is_repeated (input at (tokens ++ rest)) ≡ false
alone_no_times here at tokens rest split stops = subst (λ tokens. spec.is_repeated (input at (tokens ++ rest)) ≡ false) (sym split) (one_no_times here at rest stops)

pub hides_times : (c : DataConstant) (at : ℕ) (tokens rest : List Token) → form.data_constant c at tokens → begins constant_piece.more rest ≡ false → begins (only Times) rest ≡ false → spec.is_repeated (input at (tokens ++ rest)) ≡ false
hides_times (constants.Whole None number value) at tokens rest says stops none =
    let (here, split, is) = drop_none (whole_number number value) at tokens says in alone_no_times here at tokens rest split none
hides_times (constants.Whole (Some sign) number value) at tokens rest (before, after, split, (first, is_one, is_sign), (digits, is_last, (is_at, is))) stops none =
    subst (λ tokens. spec.is_repeated (input at (tokens ++ rest)) ≡ false) (sym (split ∙ ap (λ before. before ++ after) is_one ∙ ap (λ after. first ∷ after) is_last))
    (sym (times_second first digits at rest) ∙ ap (λ kind. spec.is_times_at (Some kind)) is.digits)
hides_times (constants.Truth number value) at tokens rest (here, split, is) stops none = alone_no_times here at tokens rest split none
hides_times (constants.Quoted number value) at tokens rest (here, split, is) stops none = alone_no_times here at tokens rest split none
hides_times (constants.Named number) at tokens rest (here, split, is) stops none = alone_no_times here at tokens rest split none

abbrev value_choice : Piece DataValue
value_choice = choice spec.is_repeated repeated_parts spec.repeated_of constant_piece spec.once form.data_value (λ a at tokens says. says) once_made value_back (only Times) shows_times hides_times

pub value_read_so : (i : Input) → spec.data_value i ≡ value_choice.read i
unfolding spec.data_value spec.repeated
value_read_so i = refl

abbrev pub value_piece : Piece DataValue
value_piece = reread value_choice spec.data_value value_read_so
