-- Pieces of one token: words, marks and names.
use Rattle.std.proofs.Common.{◌≡◌, refl, ℕ, Bool, true, false, List}
use denote.Enum.Bare.{same_true, true_same}
use Rattle.ftn_tree.specs.contracts.lexeme.Lexeme.{the_type}
use Rattle.ftn_tree.specs.declared.token.Token.{Token}
use Rattle.ftn_tree.specs.declared.token.TokenKind.{TokenKind}
use Rattle.ftn_tree.specs.declared.token.TokenKind.TheVariants as kinds
use Rattle.ftn_tree.specs.declared.lexeme.Lexeme.{Lexeme}
use Rattle.ftn_tree.specs.declared.lexeme.Lexeme.TheVariants.{Word, Open, Close}
use Rattle.ftn_tree.specs.Lexemes.{lexeme_of, lexeme_by, is_word, is_word_at, same_lexeme}
use Rattle.ftn_tree.specs.Phrases.{token, word, word_at, mark, mark_at}
use Rattle.expr_parse.specs.steps.Input.{Input, and_then, pure, expect, expect_word, taken_if, sees, sees_word, holds_first}
use Rattle.expr_parse.specs.steps.Combinators.{◌<$>◌}
use Rattle.expr_parse.proofs.Pieces.{Piece, Apart, one, mapped, reread, after_ignored, before_ignored}

pub same_is : (a b : Lexeme) → same_lexeme a b ≡ true → a ≡ b
unfolding same_lexeme
same_is a b e = same_true the_type tt a b e

pub is_same : (a b : Lexeme) → a ≡ b → same_lexeme a b ≡ true
unfolding same_lexeme
is_same a b e = true_same the_type a b e

-- the kinds that are that one
abbrev pub only : Lexeme → Lexeme → Bool
only kind other = same_lexeme other kind

no_word : (a : Lexeme) → false ≡ true → same_lexeme a Word ≡ true
no_word a e = absurd (cc e)

word_kind_at : (kind : TokenKind) (value text : List ℕ) → is_word_at kind value text ≡ true → same_lexeme (lexeme_by kind value) Word ≡ true
word_kind_at kinds.Word value text e = is_same Word Word refl
word_kind_at kinds.Whole value text e = absurd (cc e)
word_kind_at kinds.RealForm value text e = absurd (cc e)
word_kind_at kinds.Quoted value text e = absurd (cc e)
word_kind_at kinds.Dotted value text e = absurd (cc e)
word_kind_at kinds.Mark value text e = absurd (cc e)

-- a word's token is a word
pub word_kind : (text : List ℕ) (here : Token) → is_word text here ≡ true → only Word (lexeme_of here) ≡ true
word_kind text here e = word_kind_at here.kind here.value text e

pub read_word : (text : List ℕ) (i : Input) → expect_word text i ≡ taken_if (holds_first (is_word text) i.rest) i
unfolding expect_word sees_word
read_word text i = refl

-- that word, which gives its number
abbrev pub word_piece : List ℕ → Piece ℕ
word_piece text = reread (one (is_word text) (only Word) (word_kind text)) (expect_word text) (read_word text)

abbrev pub is_kind : Lexeme → Token → Bool
is_kind kind here = same_lexeme (lexeme_of here) kind

pub kind_only : (kind : Lexeme) (here : Token) → is_kind kind here ≡ true → only kind (lexeme_of here) ≡ true
kind_only kind here e = e

pub mark_made : (kind : Lexeme) (n at : ℕ) (tokens : List Token) → token (λ at here. (n ≡ at) × (is_kind kind here ≡ true)) at tokens → mark_at n kind at tokens
mark_made kind n at tokens (here, split, (number, holds)) = (here, split, (number, same_is (lexeme_of here) kind holds))

pub mark_back : (kind : Lexeme) (n at : ℕ) (tokens : List Token) → mark_at n kind at tokens → (m : ℕ) × (m ≡ n) × token (λ at here. (m ≡ at) × (is_kind kind here ≡ true)) at tokens
mark_back kind n at tokens (here, split, (number, is)) = (n, refl, (here, split, (number, is_same (lexeme_of here) kind is)))

kept : (found : Bool) (i : Input) → taken_if found i ≡ and_then (taken_if found i) (λ n. pure n)
kept true i = refl
kept false i = refl

pub read_mark : (kind : Lexeme) (i : Input) → expect kind i ≡ ((λ n. n) <$> (λ i. taken_if (holds_first (is_kind kind) i.rest) i)) i
unfolding expect sees
read_mark kind i = kept (holds_first (is_kind kind) i.rest) i

-- that token, which gives its number
abbrev pub mark_piece : Lexeme → Piece ℕ
mark_piece kind = reread (mapped (one (is_kind kind) (only kind) (kind_only kind)) (λ n. n) (λ n. mark_at n kind) (mark_made kind) (mark_back kind)) (expect kind) (read_mark kind)

abbrev pub name_piece : Piece ℕ
name_piece = mark_piece Word

pub word_made : (text : List ℕ) (n at : ℕ) (tokens : List Token) → word_at n text at tokens → word text at tokens
word_made text n at tokens (here, split, (number, holds)) = (here, split, holds)

pub word_back : (text : List ℕ) (at : ℕ) (tokens : List Token) → word text at tokens → (n : ℕ) × word_at n text at tokens
word_back text at tokens (here, split, holds) = (at, (here, split, (refl, holds)))

pub bare_made : (kind : Lexeme) (n at : ℕ) (tokens : List Token) → mark_at n kind at tokens → mark kind at tokens
bare_made kind n at tokens (here, split, (number, is)) = (here, split, is)

pub bare_back : (kind : Lexeme) (at : ℕ) (tokens : List Token) → mark kind at tokens → (n : ℕ) × mark_at n kind at tokens
bare_back kind at tokens (here, split, is) = (at, (here, split, (refl, is)))

abbrev pub none_of : Lexeme → Bool
none_of kind = false

pub apart_none : (first : Lexeme → Bool) → Apart first none_of
apart_none first kind e = refl

-- a word and then a piece
abbrev pub after_word : {A : Type 0} → List ℕ → Piece A → Piece A
after_word text piece = after_ignored (word_piece text) (word text) (word_made text) (word_back text) piece (apart_none piece.first)

-- a mark and then a piece
abbrev pub after_mark : {A : Type 0} → Lexeme → Piece A → Piece A
after_mark kind piece = after_ignored (mark_piece kind) (mark kind) (bare_made kind) (bare_back kind) piece (apart_none piece.first)

-- a piece and then a mark
abbrev pub before_mark : {A : Type 0} (piece : Piece A) (kind : Lexeme) → Apart (only kind) piece.more → Piece A
before_mark piece kind apart = before_ignored (mark_piece kind) (mark kind) (bare_made kind) (bare_back kind) piece apart

-- a piece in parentheses
abbrev pub parens : {A : Type 0} (piece : Piece A) → Apart (only Close) piece.more → Piece A
parens piece apart = after_mark Open (before_mark piece Close apart)
