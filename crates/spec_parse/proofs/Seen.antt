-- What comes next, where tokens are a phrase.
use Rattle.std.proofs.Common.{◌≡◌, refl, sym, ◌∙◌, subst, ℕ, Bool, true, false, ◌&&◌, ◌||◌, List, [], ◌∷◌, ◌++◌, ◌⊎◌, inl, inr}
use Rattle.std.specs.Str.{bytes_eq}
use Rattle.std.proofs.lemmas.Slice.Eq.{bytes_eq-Decides}
use Rattle.ftn_tree.specs.declared.token.Token.{Token}
use Rattle.ftn_tree.specs.declared.token.TokenKind.{TokenKind}
use Rattle.ftn_tree.specs.declared.token.TokenKind.TheVariants as kinds
use Rattle.ftn_tree.specs.declared.lexeme.Lexeme.{Lexeme}
use Rattle.ftn_tree.specs.declared.lexeme.Lexeme.TheVariants.{Word}
use Rattle.ftn_tree.specs.Lexemes.{lexeme_of, is_word, is_word_at}
use Rattle.ftn_tree.specs.Phrases.{Phrase, ◌·◌, word, word_at}
use Rattle.expr_parse.specs.steps.Input.{input, holds_first, sees, sees_word}
use Rattle.expr_parse.proofs.Pieces.{Piece, Apart, begins, stops_before}
use Rattle.expr_parse.proofs.Tokens.{only, none_of, word_kind, after_mark}

-- ---- marks

pub sees_is : (kind : Lexeme) (at : ℕ) (tokens : List Token) → sees kind (input at tokens) ≡ begins (only kind) tokens
unfolding sees
sees_is kind at [] = refl
sees_is kind at (here ∷ rest) = refl

begins_first : (one other : Lexeme → Bool) (tokens rest : List Token) → ((kind : Lexeme) → one kind ≡ true → other kind ≡ true) → begins one tokens ≡ true → begins other (tokens ++ rest) ≡ true
begins_first one other [] rest within e = absurd (cc e)
begins_first one other (here ∷ tokens) rest within e = within (lexeme_of here) e

-- a piece that begins with that mark alone shows it
pub seen : {A : Type 0} (piece : Piece A) (kind : Lexeme) → piece.empty ≡ false → ((other : Lexeme) → piece.first other ≡ true → only kind other ≡ true)
    → (a : A) (at : ℕ) (tokens rest : List Token) → piece.phrase a at tokens → begins piece.more rest ≡ false → sees kind (input at (tokens ++ rest)) ≡ true
seen piece kind filled within a at tokens rest says stops = by (piece.begun a at tokens says) where
  by : (begins piece.first tokens ≡ true) ⊎ ((tokens ≡ []) × (piece.empty ≡ true)) → sees kind (input at (tokens ++ rest)) ≡ true
  by (inl e) = sees_is kind at (tokens ++ rest) ∙ begins_first piece.first (only kind) tokens rest within e
  by (inr none) = absurd (cc (filled, none.1))

-- one that doesn't begin with it, and isn't empty, doesn't show it
pub unseen : {A : Type 0} (piece : Piece A) (kind : Lexeme) → piece.empty ≡ false → Apart piece.first (only kind)
    → (a : A) (at : ℕ) (tokens rest : List Token) → piece.phrase a at tokens → begins piece.more rest ≡ false → begins none_of rest ≡ false → sees kind (input at (tokens ++ rest)) ≡ false
unseen piece kind filled apart a at tokens rest says stops none = by (piece.begun a at tokens says) where
  by : (begins piece.first tokens ≡ true) ⊎ ((tokens ≡ []) × (piece.empty ≡ true)) → sees kind (input at (tokens ++ rest)) ≡ false
  by (inl e) = sees_is kind at (tokens ++ rest) ∙ stops_before piece.first (only kind) tokens rest apart e
  by (inr none) = absurd (cc (filled, none.1))

-- one that may be empty doesn't show it where it doesn't follow
pub unseen_or_empty : {A : Type 0} (piece : Piece A) (kind : Lexeme) → Apart piece.first (only kind)
    → (a : A) (at : ℕ) (tokens rest : List Token) → piece.phrase a at tokens → begins piece.more rest ≡ false → begins (only kind) rest ≡ false → sees kind (input at (tokens ++ rest)) ≡ false
unseen_or_empty piece kind apart a at tokens rest says stops follows = by (piece.begun a at tokens says) where
  by : (begins piece.first tokens ≡ true) ⊎ ((tokens ≡ []) × (piece.empty ≡ true)) → sees kind (input at (tokens ++ rest)) ≡ false
  by (inl e) = sees_is kind at (tokens ++ rest) ∙ stops_before piece.first (only kind) tokens rest apart e
  by (inr none) = subst (λ tokens. sees kind (input at (tokens ++ rest)) ≡ false) (sym none.0) (sees_is kind at rest ∙ follows)

pub first_or : (a b : Bool) → (a || (false && b)) ≡ true → a ≡ true
first_or true b e = refl
first_or false b e = e

-- a mark and then a piece begin with the mark alone
pub after_mark_first : {A : Type 0} (kind : Lexeme) (piece : Piece A) (other : Lexeme) → (after_mark kind piece).first other ≡ true → only kind other ≡ true
after_mark_first kind piece other e = first_or (only kind other) (piece.first other) e

-- ---- words

-- the tokens begin with that word
abbrev pub Starts : List ℕ → List Token → Type 0
Starts text tokens = holds_first (is_word text) tokens ≡ true

pub starts_word : (text : List ℕ) (at : ℕ) (tokens : List Token) → word text at tokens → Starts text tokens
starts_word text at tokens (here, split, holds) = subst (λ tokens. Starts text tokens) (sym split) holds

pub starts_word_at : (number : ℕ) (text : List ℕ) (at : ℕ) (tokens : List Token) → word_at number text at tokens → Starts text tokens
starts_word_at number text at tokens (here, split, (is, holds)) = subst (λ tokens. Starts text tokens) (sym split) holds

starts_longer : (text : List ℕ) (tokens rest : List Token) → Starts text tokens → Starts text (tokens ++ rest)
starts_longer text [] rest e = absurd (cc e)
starts_longer text (here ∷ tokens) rest e = e

pub starts_first : (text : List ℕ) (other : Phrase) (at : ℕ) (tokens : List Token) → (word text · other) at tokens → Starts text tokens
starts_first text other at tokens (before, after, split, says, says_other) =
    subst (λ tokens. Starts text tokens) (sym split) (starts_longer text before after (starts_word text at before says))

pub shows : (text : List ℕ) (at : ℕ) (tokens rest : List Token) → Starts text tokens → sees_word text (input at (tokens ++ rest)) ≡ true
unfolding sees_word
shows text at [] rest e = absurd (cc e)
shows text at (here ∷ tokens) rest e = e

-- one word is no other one
other_at : (kind : TokenKind) (value text other : List ℕ) → bytes_eq text other ≡ false → is_word_at kind value text ≡ true → is_word_at kind value other ≡ false
other_at kinds.Word value text other apart e = subst (λ value. bytes_eq value other ≡ false) (sym ((bytes_eq-Decides value text).0 e)) apart
other_at kinds.Whole value text other apart e = refl
other_at kinds.RealForm value text other apart e = refl
other_at kinds.Quoted value text other apart e = refl
other_at kinds.Dotted value text other apart e = refl
other_at kinds.Mark value text other apart e = refl

pub other_word : (here : Token) (text other : List ℕ) → bytes_eq text other ≡ false → is_word text here ≡ true → is_word other here ≡ false
other_word here text other apart e = other_at here.kind here.value text other apart e

pub hides : (text other : List ℕ) (at : ℕ) (tokens rest : List Token) → bytes_eq text other ≡ false → Starts text tokens → sees_word other (input at (tokens ++ rest)) ≡ false
unfolding sees_word
hides text other at [] rest apart e = absurd (cc e)
hides text other at (here ∷ tokens) rest apart e = other_word here text other apart e

-- what isn't a word isn't that word
pub no_word_at : (text : List ℕ) (here : Token) (found : Bool) → is_word text here ≡ found → only Word (lexeme_of here) ≡ false → is_word text here ≡ false
no_word_at text here true is e = absurd (cc (sym (word_kind text here is) ∙ e))
no_word_at text here false is e = is

pub hidden : (text : List ℕ) (at : ℕ) (tokens : List Token) → begins (only Word) tokens ≡ false → sees_word text (input at tokens) ≡ false
unfolding sees_word
hidden text at [] e = refl
hidden text at (here ∷ rest) e = no_word_at text here (is_word text here) refl e
