-- Types are read as they are written.
use Rattle.std.proofs.Common.{◌≡◌, refl, sym, ◌∙◌, ap, subst, ℕ, ℤ, Bool, true, false, ◌||◌, List, ◌∷◌, ◌++◌, length, Option, Some, None, ◌⊎◌, inl, inr, codes}
use Rattle.ftn_tree.specs.declared.token.Token.{Token}
use Rattle.ftn_tree.specs.declared.expr.Expr.{Expr}
use Rattle.ftn_tree.specs.declared.parts.TypeSpec.{TypeSpec}
use Rattle.ftn_tree.specs.declared.parts.TypeSpec.TheVariants.{Integer, Logical, Character}
use Rattle.ftn_tree.specs.declared.parts.LengthSelector.{LengthSelector}
use Rattle.ftn_tree.specs.declared.parts.LengthSelector.TheVariants as selector
use Rattle.ftn_tree.specs.declared.parts.CharLength.{CharLength}
use Rattle.ftn_tree.specs.declared.parts.CharLength.TheVariants as chars
use Rattle.ftn_tree.specs.declared.parts.LengthValue.{LengthValue}
use Rattle.ftn_tree.specs.declared.parts.LengthValue.TheVariants.{Assumed, Given}
use Rattle.ftn_tree.specs.declared.lexeme.Lexeme.{Lexeme}
use Rattle.ftn_tree.specs.declared.lexeme.Lexeme.TheVariants.{Whole, Open, Close, Times, Equals}
use Rattle.ftn_tree.specs.Lexemes.{lexeme_of, same_lexeme}
use Rattle.ftn_tree.specs.Phrases.{Phrase, never, ◌·◌, word, word_at, mark_at, maybe, in_parens}
use Rattle.ftn_tree.specs.Grammar.{expr}
use Rattle.ftn_tree.specs.TypeForms as form
use Rattle.expr_parse.specs.steps.Input.{Input, input, sees, sees_word}
use Rattle.expr_parse.proofs.Pieces.{Piece, Apart, begins, begins_or, reread, option}
use Rattle.expr_parse.proofs.AllKinds.{apart}
use Rattle.expr_parse.proofs.Tokens.{only, none_of, mark_piece, word_piece, word_made, word_back, bare_made, bare_back, after_word, after_mark, before_mark, parens, is_same}
use Rattle.expr_parse.proofs.Operands.{ReadsExpressions, expression_piece, goes_on}
use Rattle.expr_parse.specs.steps.Combinators.{◌<$>◌}
use Rattle.spec_parse.specs.steps.Choices.{picked}
use Rattle.spec_parse.specs.steps.Types as spec
use Rattle.spec_parse.specs.steps.Types.{length_value, char_length, len_selector, length_selector, other_type, type_spec, whole_of, sees_len}
use Rattle.spec_parse.proofs.Choices.{choice, sound_picked, complete_picked, chosen_plain}
use Rattle.spec_parse.proofs.Seen.{seen, unseen, unseen_or_empty, starts_word_at, starts_first, starts_word, shows, hides, after_mark_first}
use Rattle.spec_parse.proofs.Lengths.{starts_no_times, whole_no_open, open_no_times, times_no_word, number_phrase, number_made, number_back, number_begun, shows_len, no_len, expression_no_len}

pub itself : (kind other : Lexeme) → only kind other ≡ true → only kind other ≡ true
itself kind other e = e

abbrev pub length_more : Lexeme → Bool
length_more kind = none_of kind || (goes_on kind || none_of kind)

pub close_no_length : Apart (only Close) length_more
unfolding same_lexeme
close_no_length = apart (only Close) length_more refl

pub goes_on_false : (rest : List Token) → begins length_more rest ≡ false → begins goes_on rest ≡ false
goes_on_false rest stops = (begins_or goes_on none_of rest (begins_or none_of (λ kind. goes_on kind || none_of kind) rest stops).1).0

module _ (laws : ReadsExpressions) where
  abbrev pub operand : Piece Expr
  operand = expression_piece laws

  -- ---- a length

  pub length_back : (c : LengthValue) (at : ℕ) (tokens : List Token) → form.length_value c at tokens
      → ((n : ℕ) × (spec.assumed n ≡ c) × mark_at n Times at tokens) ⊎ ((e : Expr) × (Given e ≡ c) × expr e at tokens)
  length_back Assumed at tokens says = let (n, says_n) = bare_back Times at tokens says in inl (n, refl, says_n)
  length_back (Given e) at tokens says = inr (e, refl, says)

  abbrev pub length_choice : Piece LengthValue
  length_choice = choice (sees Times) (mark_piece Times) spec.assumed operand Given form.length_value (bare_made Times) (λ e at tokens says. says) length_back none_of
      (seen (mark_piece Times) Times refl (itself Times)) (unseen operand Times refl starts_no_times)

  pub length_read : (i : Input) → length_value i ≡ length_choice.read i
  unfolding length_value
  length_read i = refl

  abbrev pub length_piece : Piece LengthValue
  length_piece = reread length_choice length_value length_read

  -- ---- a length after `*`

  abbrev pub number_piece : Piece (ℕ × ℤ)
  number_piece = record {
    phrase = number_phrase;
    read = picked whole_of operand.read;
    first = only Whole;
    empty = false;
    more = goes_on;
    begun = number_begun;
    sound = sound_picked whole_of operand number_phrase number_made number_back;
    complete = complete_picked whole_of operand number_phrase number_made number_back;
  }

  abbrev pub paren_piece : Piece LengthValue
  paren_piece = parens length_piece close_no_length

  pub chars_back : (c : CharLength) (at : ℕ) (tokens : List Token) → form.char_length c at tokens
      → ((a : LengthValue) × (chars.Paren a ≡ c) × in_parens (form.length_value a) at tokens) ⊎ ((b : ℕ × ℤ) × (spec.whole_length b ≡ c) × number_phrase b at tokens)
  chars_back (chars.Whole number value) at tokens says = inr ((number, value), refl, says)
  chars_back (chars.Paren length) at tokens says = inl (length, refl, says)

  abbrev pub chars_choice : Piece CharLength
  chars_choice = choice (sees Open) paren_piece chars.Paren number_piece spec.whole_length form.char_length (λ a at tokens says. says) (λ b at tokens says. says) chars_back none_of
      (seen paren_piece Open refl (after_mark_first Open (before_mark length_piece Close close_no_length))) (unseen number_piece Open refl whole_no_open)

  pub chars_read : (i : Input) → char_length i ≡ chars_choice.read i
  unfolding char_length
  chars_read i = refl

  abbrev pub chars_piece : Piece CharLength
  chars_piece = reread chars_choice char_length chars_read

  -- ---- what stands after CHARACTER

  abbrev pub paren_text : LengthSelector → Phrase
  paren_text (selector.Star length) = never
  paren_text (selector.Paren has_word length) = form.paren_length has_word length

  abbrev pub len_piece : Piece LengthValue
  len_piece = after_word (codes "len") (after_mark Equals length_piece)

  pub len_back : (c : LengthSelector) (at : ℕ) (tokens : List Token) → paren_text c at tokens
      → ((a : LengthValue) × (selector.Paren true a ≡ c) × len_piece.phrase a at tokens) ⊎ ((b : LengthValue) × (selector.Paren false b ≡ c) × form.length_value b at tokens)
  len_back (selector.Star length) at tokens says = absurd says
  len_back (selector.Paren true length) at tokens says = inl (length, refl, says)
  len_back (selector.Paren false length) at tokens says = inr (length, refl, says)

  pub is_len : (a : LengthValue) (at : ℕ) (tokens rest : List Token) → len_piece.phrase a at tokens → begins len_piece.more rest ≡ false → sees_len (input at (tokens ++ rest)) ≡ true
  is_len a at tokens rest (one, both, split, (here, is_here, is_len_word), (equals_only, more, split_both, (equals, is_one, is_equals), says)) stops =
      subst (λ tokens. sees_len (input at (tokens ++ rest)) ≡ true)
      (sym (split ∙ ap (λ one. one ++ both) is_here ∙ ap (λ both. here ∷ both) (split_both ∙ ap (λ one. one ++ more) is_one)))
      (shows_len here equals at (more ++ rest) is_len_word is_equals)

  pub is_no_len : (b : LengthValue) (at : ℕ) (tokens rest : List Token) → form.length_value b at tokens → begins length_more rest ≡ false → begins (only Equals) rest ≡ false → sees_len (input at (tokens ++ rest)) ≡ false
  is_no_len Assumed at tokens rest (here, split, is_times) stops none =
      subst (λ tokens. sees_len (input at (tokens ++ rest)) ≡ false) (sym split) (no_len here at rest (times_no_word (lexeme_of here) (is_same (lexeme_of here) Times is_times)))
  is_no_len (Given e) at tokens rest says stops none = expression_no_len laws e at tokens rest says (goes_on_false rest stops) none

  abbrev pub selector_choice : Piece LengthSelector
  selector_choice = choice sees_len len_piece (selector.Paren true) length_piece (selector.Paren false) paren_text (λ a at tokens says. says) (λ b at tokens says. says) len_back (only Equals) is_len is_no_len

  pub selector_read : (i : Input) → len_selector i ≡ selector_choice.read i
  unfolding len_selector
  selector_read i = refl

  abbrev pub selector_piece : Piece LengthSelector
  selector_piece = reread selector_choice len_selector selector_read

  pub close_no_selector : Apart (only Close) selector_piece.more
  unfolding same_lexeme
  close_no_selector = apart (only Close) selector_piece.more refl

  abbrev pub star_piece : Piece CharLength
  star_piece = after_mark Times chars_piece

  abbrev pub parens_selector : Piece LengthSelector
  parens_selector = parens selector_piece close_no_selector

  abbrev pub maybe_parens : Piece (Option LengthSelector)
  maybe_parens = option parens_selector Open refl (after_mark_first Open (before_mark selector_piece Close close_no_selector))

  pub made_parens : (b : Option LengthSelector) (at : ℕ) (tokens : List Token) → maybe_parens.phrase b at tokens → maybe form.length_selector b at tokens
  made_parens None at tokens says = says
  made_parens (Some (selector.Star length)) at tokens (open_only, rest, split, open_says, (middle, close, split_rest, says, close_says)) = absurd says
  made_parens (Some (selector.Paren has_word length)) at tokens says = says

  pub after_character_back : (c : Option LengthSelector) (at : ℕ) (tokens : List Token) → maybe form.length_selector c at tokens
      → ((a : CharLength) × (spec.star_selector a ≡ c) × star_piece.phrase a at tokens) ⊎ ((b : Option LengthSelector) × (b ≡ c) × maybe_parens.phrase b at tokens)
  after_character_back None at tokens says = inr (None, refl, says)
  after_character_back (Some (selector.Star length)) at tokens says = inl (length, refl, says)
  after_character_back (Some (selector.Paren has_word length)) at tokens says = inr (Some (selector.Paren has_word length), refl, says)

  abbrev pub after_character : Piece (Option LengthSelector)
  after_character = choice (sees Times) star_piece spec.star_selector maybe_parens (λ c. c) (maybe form.length_selector) (λ a at tokens says. says) made_parens after_character_back (only Times)
      (seen star_piece Times refl (after_mark_first Times chars_piece)) (unseen_or_empty maybe_parens Times open_no_times)

  pub after_character_read : (i : Input) → length_selector i ≡ after_character.read i
  unfolding length_selector
  after_character_read i = chosen_plain (sees Times) (spec.star_selector <$> star_piece.read) maybe_parens.read i

  abbrev pub after_character_piece : Piece (Option LengthSelector)
  after_character_piece = reread after_character length_selector after_character_read

  -- ---- types

  abbrev pub other_text : TypeSpec → Phrase
  other_text Integer = never
  other_text Logical = word (codes "logical")
  other_text (Character length) = word (codes "character") · maybe form.length_selector length

  abbrev pub character_piece : Piece (Option LengthSelector)
  character_piece = after_word (codes "character") after_character_piece

  pub other_back : (c : TypeSpec) (at : ℕ) (tokens : List Token) → other_text c at tokens
      → ((n : ℕ) × (spec.logical n ≡ c) × word_at n (codes "logical") at tokens) ⊎ ((b : Option LengthSelector) × (Character b ≡ c) × character_piece.phrase b at tokens)
  other_back Integer at tokens says = absurd says
  other_back Logical at tokens says = let (n, says_n) = word_back (codes "logical") at tokens says in inl (n, refl, says_n)
  other_back (Character length) at tokens says = inr (length, refl, says)

  abbrev pub other_choice : Piece TypeSpec
  other_choice = choice (sees_word (codes "logical")) (word_piece (codes "logical")) spec.logical character_piece Character other_text
      (word_made (codes "logical")) (λ b at tokens says. says) other_back none_of
      (λ n at tokens rest says stops. shows (codes "logical") at tokens rest (starts_word_at n (codes "logical") at tokens says))
      (λ b at tokens rest says stops none. hides (codes "character") (codes "logical") at tokens rest refl (starts_first (codes "character") (maybe form.length_selector b) at tokens says))

  pub other_read : (i : Input) → other_type i ≡ other_choice.read i
  unfolding other_type
  other_read i = refl

  abbrev pub other_piece : Piece TypeSpec
  other_piece = reread other_choice other_type other_read

  pub made_other : (b : TypeSpec) (at : ℕ) (tokens : List Token) → other_text b at tokens → form.type_text b at tokens
  made_other Integer at tokens says = absurd says
  made_other Logical at tokens says = says
  made_other (Character length) at tokens says = says

  pub type_back : (c : TypeSpec) (at : ℕ) (tokens : List Token) → form.type_text c at tokens
      → ((n : ℕ) × (spec.integer n ≡ c) × word_at n (codes "integer") at tokens) ⊎ ((b : TypeSpec) × (b ≡ c) × other_text b at tokens)
  type_back Integer at tokens says = let (n, says_n) = word_back (codes "integer") at tokens says in inl (n, refl, says_n)
  type_back Logical at tokens says = inr (Logical, refl, says)
  type_back (Character length) at tokens says = inr (Character length, refl, says)

  pub no_integer : (b : TypeSpec) (at : ℕ) (tokens rest : List Token) → other_text b at tokens → sees_word (codes "integer") (input at (tokens ++ rest)) ≡ false
  no_integer Integer at tokens rest says = absurd says
  no_integer Logical at tokens rest says = hides (codes "logical") (codes "integer") at tokens rest refl (starts_word (codes "logical") at tokens says)
  no_integer (Character length) at tokens rest says = hides (codes "character") (codes "integer") at tokens rest refl (starts_first (codes "character") (maybe form.length_selector length) at tokens says)

  abbrev pub type_choice : Piece TypeSpec
  type_choice = choice (sees_word (codes "integer")) (word_piece (codes "integer")) spec.integer other_piece (λ c. c) form.type_text
      (word_made (codes "integer")) made_other type_back none_of
      (λ n at tokens rest says stops. shows (codes "integer") at tokens rest (starts_word_at n (codes "integer") at tokens says))
      (λ b at tokens rest says stops none. no_integer b at tokens rest says)

  pub type_read : (i : Input) → type_spec i ≡ type_choice.read i
  unfolding type_spec
  type_read i = chosen_plain (sees_word (codes "integer")) (spec.integer <$> (word_piece (codes "integer")).read) other_piece.read i

  -- a type
  abbrev pub type_piece : Piece TypeSpec
  type_piece = reread type_choice type_spec type_read
