-- Lengths in IMPLICIT statements, which are whole numbers, as pieces.
use Rattle.std.proofs.Common.{◌≡◌, refl, sym, ◌∙◌, subst, ℕ, ℤ, Bool, true, false, List, ◌⊎◌, inl, inr, codes}
use denote.Hole.Carrier
use Rattle.ftn_tree.specs.declared.token.Token.{Token}
use Rattle.ftn_tree.specs.declared.expr.Expr.{Expr, out-Expr}
use Rattle.ftn_tree.specs.declared.expr.Expr.TheOpen.{Expr-F}
use Rattle.ftn_tree.specs.declared.expr.Expr.TheVariants as e
use Rattle.ftn_tree.specs.declared.expr.Expr.TheViews.{roll-Expr, roll-out-Expr}
use Rattle.ftn_tree.specs.declared.lexeme.Lexeme.{Lexeme}
use Rattle.ftn_tree.specs.declared.lexeme.Lexeme.TheVariants.{Word, Whole, Open, Close, Times, Equals}
use Rattle.ftn_tree.specs.declared.parts.LengthSelector.{LengthSelector}
use Rattle.ftn_tree.specs.declared.parts.LengthSelector.TheVariants.{Star, Paren}
use Rattle.ftn_tree.specs.declared.parts.CharLength.TheVariants as chars
use Rattle.ftn_tree.specs.declared.parts.LengthValue.TheVariants.{Assumed, Given}
use Rattle.ftn_tree.specs.Layers.{ExprLayer}
use Rattle.ftn_tree.specs.Lexemes.{same_lexeme}
use Rattle.ftn_tree.specs.Grammar.{expr}
use Rattle.ftn_tree.specs.Phrases.{Phrase, ◌·◌, mark, never, provided, in_parens}
use Rattle.ftn_tree.specs.TypeForms as text
use Rattle.ftn_tree.specs.UnitForms.{is_whole_at, is_whole_selector}
use Rattle.expr_parse.specs.steps.Input.{sees}
use Rattle.expr_parse.proofs.AllKinds.{apart}
use Rattle.expr_parse.proofs.Pieces.{Piece, Apart, mapped}
use Rattle.expr_parse.proofs.Tokens.{only, none_of, apart_none, after_word, after_mark, before_mark, parens}
use Rattle.spec_parse.proofs.Choices.{choice}
use Rattle.spec_parse.proofs.Either.{either}
use Rattle.spec_parse.proofs.Lengths.{is_whole, whole_is, whole_no_open, whole_no_word}
use Rattle.spec_parse.proofs.Numbers.{number_phrase, number_piece}
use Rattle.spec_parse.proofs.Seen.{seen, unseen, after_mark_first, first_or}

-- ---- a condition on a part is one on the whole

pub out_of_parens : (holds : Bool) (phrase : Phrase) (at : ℕ) (tokens : List Token) → in_parens (provided holds phrase) at tokens → provided holds (in_parens phrase) at tokens
out_of_parens holds phrase at tokens (before, after, split, opens, (middle, last, split_after, (passes, says), closes)) = (passes, (before, after, split, opens, (middle, last, split_after, says, closes)))

pub into_parens : (holds : Bool) (phrase : Phrase) (at : ℕ) (tokens : List Token) → provided holds (in_parens phrase) at tokens → in_parens (provided holds phrase) at tokens
into_parens holds phrase at tokens (passes, (before, after, split, opens, (middle, last, split_after, says, closes))) = (before, after, split, opens, (middle, last, split_after, (passes, says), closes))

pub move_out : (holds : Bool) (one other : Phrase) (at : ℕ) (tokens : List Token) → (one · provided holds other) at tokens → provided holds (one · other) at tokens
move_out holds one other at tokens (before, after, split, says, (passes, says_other)) = (passes, (before, after, split, says, says_other))

pub move_in : (holds : Bool) (one other : Phrase) (at : ℕ) (tokens : List Token) → provided holds (one · other) at tokens → (one · provided holds other) at tokens
move_in holds one other at tokens (passes, (before, after, split, says, says_other)) = (before, after, split, says, (passes, says_other))

-- ---- an expression that is a whole number

abbrev pub given_phrase : Expr → Phrase
given_phrase found = provided (is_whole_at (out-Expr found)) (expr found)

abbrev pub expr_of : ℕ × ℤ → Expr
expr_of both = e.Whole both.0 both.1

pub given_made : (both : ℕ × ℤ) (at : ℕ) (tokens : List Token) → number_phrase both at tokens → given_phrase (expr_of both) at tokens
unfolding out-Expr denote.Hole.Carrier.out
given_made both at tokens says = (refl, whole_is both.0 both.1 at tokens says)

pub given_back_at : (layer : ExprLayer) (at : ℕ) (tokens : List Token) → provided (is_whole_at layer) (expr (roll-Expr layer)) at tokens
    → (both : ℕ × ℤ) × (expr_of both ≡ roll-Expr layer) × number_phrase both at tokens
given_back_at (Expr-F.Whole number value) at tokens (passes, says) = ((number, value), sym (e.rolls-Whole number value), is_whole number value at tokens says)
given_back_at _ at tokens (passes, says) = absurd (cc passes)

pub given_back : (found : Expr) (at : ℕ) (tokens : List Token) → given_phrase found at tokens → (both : ℕ × ℤ) × (expr_of both ≡ found) × number_phrase both at tokens
given_back found at tokens (passes, says) =
    let (both, is, says_number) = given_back_at (out-Expr found) at tokens (passes, subst (λ found. expr found at tokens) (sym (roll-out-Expr found)) says) in
    (both, is ∙ roll-out-Expr found, says_number)

-- its reader is given_number
abbrev pub given_piece : Piece Expr
given_piece = mapped number_piece expr_of given_phrase given_made given_back

-- ---- after `*`

abbrev pub star_text : LengthSelector → Phrase
star_text (Star found) = provided (is_whole_selector (Star found)) (text.char_length found)
star_text (Paren has_word found) = never

abbrev pub in_parens_of : Expr → LengthSelector
in_parens_of found = Star (chars.Paren (Given found))

abbrev pub alone_of : ℕ × ℤ → LengthSelector
alone_of both = Star (chars.Whole both.0 both.1)

abbrev pub paren_given : Piece Expr
paren_given = parens given_piece (apart_none (only Close))

pub paren_made : (found : Expr) (at : ℕ) (tokens : List Token) → paren_given.phrase found at tokens → star_text (in_parens_of found) at tokens
paren_made found at tokens says = out_of_parens (is_whole_at (out-Expr found)) (expr found) at tokens says

pub alone_made : (both : ℕ × ℤ) (at : ℕ) (tokens : List Token) → number_phrase both at tokens → star_text (alone_of both) at tokens
alone_made both at tokens says = (refl, says)

pub star_back : (found : LengthSelector) (at : ℕ) (tokens : List Token) → star_text found at tokens
    → ((a : Expr) × (in_parens_of a ≡ found) × paren_given.phrase a at tokens) ⊎ ((b : ℕ × ℤ) × (alone_of b ≡ found) × number_phrase b at tokens)
star_back (Star (chars.Whole number value)) at tokens (passes, says) = inr ((number, value), refl, says)
star_back (Star (chars.Paren Assumed)) at tokens (passes, says) = absurd (cc passes)
star_back (Star (chars.Paren (Given found))) at tokens says = inl (found, refl, into_parens (is_whole_at (out-Expr found)) (expr found) at tokens says)
star_back (Paren has_word found) at tokens says = absurd says

abbrev pub star_piece : Piece LengthSelector
star_piece = choice (sees Open) paren_given in_parens_of number_piece alone_of star_text paren_made alone_made star_back none_of
    (seen paren_given Open refl (after_mark_first Open (before_mark given_piece Close (apart_none (only Close)))))
    (unseen number_piece Open refl whole_no_open)

-- ---- in parentheses

abbrev pub len_phrase : Bool × Expr → Phrase
len_phrase both = provided (is_whole_at (out-Expr both.1)) (text.paren_length both.0 (Given both.1))

abbrev pub named_given : Piece Expr
named_given = after_word (codes "len") (after_mark Equals given_piece)

abbrev pub with_word : Expr → Bool × Expr
with_word found = (true, found)

abbrev pub without_word : Expr → Bool × Expr
without_word found = (false, found)

pub named_made : (found : Expr) (at : ℕ) (tokens : List Token) → named_given.phrase found at tokens → len_phrase (with_word found) at tokens
named_made found at tokens (before, after, split, says, says_rest) =
    let (passes, rest) = move_out (is_whole_at (out-Expr found)) (mark Equals) (expr found) _ _ says_rest in
    (passes, (before, after, split, says, rest))

pub bare_made : (found : Expr) (at : ℕ) (tokens : List Token) → given_phrase found at tokens → len_phrase (without_word found) at tokens
bare_made found at tokens says = says

pub len_back_by : (has_word : Bool) (found : Expr) (at : ℕ) (tokens : List Token) → len_phrase (has_word, found) at tokens
    → ((a : Expr) × (with_word a ≡ (has_word, found)) × named_given.phrase a at tokens) ⊎ ((b : Expr) × (without_word b ≡ (has_word, found)) × given_phrase b at tokens)
len_back_by true found at tokens (passes, (before, after, split, says, says_rest)) =
    inl (found, refl, (before, after, split, says, move_in (is_whole_at (out-Expr found)) (mark Equals) (expr found) _ _ (passes, says_rest)))
len_back_by false found at tokens says = inr (found, refl, says)

pub len_back : (both : Bool × Expr) (at : ℕ) (tokens : List Token) → len_phrase both at tokens
    → ((a : Expr) × (with_word a ≡ both) × named_given.phrase a at tokens) ⊎ ((b : Expr) × (without_word b ≡ both) × given_phrase b at tokens)
len_back both at tokens says = len_back_by both.0 both.1 at tokens says

pub named_first : (kind : Lexeme) → named_given.first kind ≡ true → only Word kind ≡ true
named_first kind is = first_or (only Word kind) ((after_mark Equals given_piece).first kind) is

abbrev pub len_piece : Piece (Bool × Expr)
len_piece = choice (sees Word) named_given with_word given_piece without_word len_phrase named_made bare_made len_back none_of
    (seen named_given Word refl named_first)
    (unseen given_piece Word refl whole_no_word)

pub close_len : Apart (only Close) len_piece.more
unfolding same_lexeme
close_len = apart (only Close) len_piece.more refl

abbrev pub paren_len : Piece (Bool × Expr)
paren_len = parens len_piece close_len

abbrev pub paren_of : Bool × Expr → LengthSelector
paren_of both = Paren both.0 (Given both.1)

abbrev pub paren_text : LengthSelector → Phrase
paren_text (Star found) = never
paren_text (Paren has_word found) = provided (is_whole_selector (Paren has_word found)) (in_parens (text.paren_length has_word found))

pub len_made : (both : Bool × Expr) (at : ℕ) (tokens : List Token) → paren_len.phrase both at tokens → paren_text (paren_of both) at tokens
len_made both at tokens says = out_of_parens (is_whole_at (out-Expr both.1)) (text.paren_length both.0 (Given both.1)) at tokens says

pub paren_back : (found : LengthSelector) (at : ℕ) (tokens : List Token) → paren_text found at tokens → (both : Bool × Expr) × (paren_of both ≡ found) × paren_len.phrase both at tokens
paren_back (Star found) at tokens says = absurd says
paren_back (Paren has_word Assumed) at tokens (passes, says) = absurd (cc passes)
paren_back (Paren has_word (Given found)) at tokens says = ((has_word, found), refl, into_parens (is_whole_at (out-Expr found)) (text.paren_length has_word (Given found)) at tokens says)

abbrev pub paren_piece : Piece LengthSelector
paren_piece = mapped paren_len paren_of paren_text len_made paren_back

-- ---- either

abbrev pub starred_piece : Piece LengthSelector
starred_piece = after_mark Times star_piece

pub open_no_times : Apart paren_piece.first (only Times)
unfolding same_lexeme
open_no_times = apart paren_piece.first (only Times) refl

abbrev pub length_piece : Piece LengthSelector
length_piece = either (sees Times) starred_piece paren_piece none_of
    (seen starred_piece Times refl (after_mark_first Times star_piece))
    (unseen paren_piece Times refl open_no_times)

pub length_made : (found : LengthSelector) (at : ℕ) (tokens : List Token) → length_piece.phrase found at tokens → provided (is_whole_selector found) (text.length_selector found) at tokens
length_made (Star found) at tokens (inl says) = move_out (is_whole_selector (Star found)) (mark Times) (text.char_length found) at tokens says
length_made (Star found) at tokens (inr says) = absurd says
length_made (Paren has_word found) at tokens (inl (before, after, split, says, none)) = absurd none
length_made (Paren has_word found) at tokens (inr says) = says

pub length_back : (found : LengthSelector) (at : ℕ) (tokens : List Token) → provided (is_whole_selector found) (text.length_selector found) at tokens → length_piece.phrase found at tokens
length_back (Star found) at tokens says = inl (move_in (is_whole_selector (Star found)) (mark Times) (text.char_length found) at tokens says)
length_back (Paren has_word found) at tokens says = inr says
