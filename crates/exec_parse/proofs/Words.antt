-- First words of statements.
use Rattle.std.proofs.Common.{◌≡◌, refl, sym, ◌∙◌, ap, subst, ℕ, ◌+◌, Bool, true, false, not, ◌&&◌, List, [], ◌∷◌, ◌++◌, length, drop, Some, if◌then◌else◌, ◌⊎◌, inl, inr}
use Rattle.std.specs.Str.{bytes_eq}
use Rattle.std.proofs.lemmas.Bool.{cases_Bool, and_parts, not-true}
use Rattle.std.proofs.lemmas.Option.{some_pair_parts}
use Rattle.ftn_tree.specs.declared.token.Token.{Token}
use Rattle.ftn_tree.specs.declared.token.TokenKind.{TokenKind}
use Rattle.ftn_tree.specs.declared.token.TokenKind.TheVariants as kinds
use Rattle.ftn_tree.specs.declared.form.Form.{Form}
use Rattle.ftn_tree.specs.declared.lexeme.Lexeme.TheVariants as lexeme
use Rattle.ftn_tree.specs.Lexemes.{lexeme_of, is_word, is_word_at, same_lexeme}
use Rattle.ftn_tree.specs.Phrases.{Phrase, ◌·◌, word, word_at, mark}
use Rattle.ftn_tree.specs.declared.lexeme.Lexeme.{Lexeme}
use Rattle.ftn_tree.specs.ExecutableForms.{joined_words}
use Rattle.expr_parse.specs.steps.Input.{Input, input, Reader, pure, holds_first, sees_word, peek_second, first_lexeme, after, taken_if, expect_word}
use Rattle.expr_parse.specs.steps.Combinators.{◌<$>◌}
use Rattle.exec_parse.specs.steps.Constructs as read
use Rattle.expr_parse.proofs.Pieces.{Piece, Took, Apart, begins, begins_after, bind_some, bind_is, before_ignored}
use Rattle.expr_parse.proofs.Tokens.{only, none_of, word_piece, word_kind, word_made, word_back, after_word}
use Rattle.exec_parse.specs.steps.Constructs.{is_colon, sees_label}
use Rattle.exec_parse.proofs.Wholes.{Sound, either_way}
use Rattle.ftn_tree.proofs.Namings.{text_is}

-- the tokens begin with that word
pub record Starts (text : List ℕ) (tokens : List Token) : Type 0 where
  pub first : Token
  pub rest : List Token
  pub tokens_are : tokens ≡ first ∷ rest
  pub is : is_word text first ≡ true

pub starts_with : (text : List ℕ) (phrase : Phrase) (at : ℕ) (tokens : List Token) → (word text · phrase) at tokens → Starts text tokens
starts_with text phrase at tokens (before, after, split, (here, is_one, is), says) =
    record { first = here; rest = after; tokens_are = split ∙ ap (λ before. before ++ after) is_one; is = is }

pub starts_alone : (text : List ℕ) (at : ℕ) (tokens : List Token) → word text at tokens → Starts text tokens
starts_alone text at tokens (here, is_one, is) = record { first = here; rest = []; tokens_are = is_one; is = is }

pub sees_own : (text : List ℕ) (at : ℕ) (tokens : List Token) → Starts text tokens → sees_word text (input at tokens) ≡ true
unfolding sees_word
sees_own text at tokens starts = ap (holds_first (is_word text)) starts.tokens_are ∙ starts.is

other_at : (kind : TokenKind) (value text other : List ℕ) → is_word_at kind value text ≡ true → bytes_eq text other ≡ false → is_word_at kind value other ≡ false
other_at kinds.Word value text other e apart = ap (λ value. bytes_eq value other) (text_is value text e) ∙ apart
other_at kinds.Whole value text other e apart = refl
other_at kinds.RealForm value text other e apart = refl
other_at kinds.Quoted value text other e apart = refl
other_at kinds.Dotted value text other e apart = refl
other_at kinds.Mark value text other e apart = refl

pub sees_other : (text other : List ℕ) (at : ℕ) (tokens : List Token) → Starts text tokens → bytes_eq text other ≡ false → sees_word other (input at tokens) ≡ false
unfolding sees_word
sees_other text other at tokens starts apart =
    ap (holds_first (is_word other)) starts.tokens_are ∙ other_at starts.first.kind starts.first.value text other starts.is apart

-- ---- readers by first words

abbrev pub Rows : Type 0
Rows = List (List ℕ × Reader Form)

abbrev pub first_row : Rows → Reader Form → Reader Form
first_row [] last i = last i
first_row (row ∷ rows) last i = if sees_word row.0 i then row.1 i else first_row rows last i

abbrev pub differ : List ℕ → Rows → Bool
differ text [] = true
differ text (row ∷ rows) = not (bytes_eq text row.0) && differ text rows

pub passed : (rows : Rows) (last : Reader Form) (text : List ℕ) (at : ℕ) (tokens : List Token) → Starts text tokens → differ text rows ≡ true → first_row rows last (input at tokens) ≡ last (input at tokens)
passed [] last text at tokens starts apart = refl
passed (row ∷ rows) last text at tokens starts apart =
    let parts = and_parts (not (bytes_eq text row.0)) (differ text rows) apart in
    let unseen = sees_other text row.0 at tokens starts (not-true (bytes_eq text row.0) parts.0) in
    ap (λ seen. if seen then row.1 (input at tokens) else first_row rows last (input at tokens)) unseen ∙ passed rows last text at tokens starts parts.1

-- the row of the first word is taken, where no row before it has that word
pub picked : (before after : Rows) (text : List ℕ) (read last : Reader Form) (at : ℕ) (tokens : List Token) → Starts text tokens → differ text before ≡ true
    → first_row (before ++ (text, read) ∷ after) last (input at tokens) ≡ read (input at tokens)
picked [] after text read last at tokens starts apart =
    ap (λ seen. if seen then read (input at tokens) else first_row after last (input at tokens)) (sees_own text at tokens starts)
picked (row ∷ before) after text read last at tokens starts apart =
    let parts = and_parts (not (bytes_eq text row.0)) (differ text before) apart in
    let unseen = sees_other text row.0 at tokens starts (not-true (bytes_eq text row.0) parts.0) in
    ap (λ seen. if seen then row.1 (input at tokens) else first_row (before ++ (text, read) ∷ after) last (input at tokens)) unseen
    ∙ picked before after text read last at tokens starts parts.1

abbrev pub AllSound : Rows → (Form → Phrase) → Type 0
AllSound [] phrase = Unit {0}
AllSound (row ∷ rows) phrase = Sound row.1 phrase × AllSound rows phrase

pub rows_sound : (rows : Rows) (last : Reader Form) (phrase : Form → Phrase) → AllSound rows phrase → Sound last phrase → Sound (first_row rows last) phrase
rows_sound [] last phrase all sound at tokens form j e end = sound at tokens form j e end
rows_sound (row ∷ rows) last phrase all sound at tokens form j e end =
    by (λ e. rows_sound rows last phrase all.1 sound at tokens form j e end) where
      by : (first_row rows last (input at tokens) ≡ Some (form, j) → phrase form at tokens) → phrase form at tokens
      by later = either_way (sees_word row.0 (input at tokens)) (row.1 (input at tokens)) (first_row rows last (input at tokens)) (Some (form, j)) e
          (λ seen e. all.0 at tokens form j e end) (λ unseen e. later e)

-- ---- second tokens

pub second_is : (text : List ℕ) (kind : Lexeme) (phrase : Phrase) (at : ℕ) (tokens : List Token) → (word text · mark kind · phrase) at tokens → peek_second (input at tokens) ≡ Some kind
unfolding peek_second
second_is text kind phrase at tokens (before, after, split, (here, is_one, is), (one, rest, split_after, (next, is_next, is_kind), says)) =
    ap (λ tokens. first_lexeme (drop 1 tokens)) (split ∙ ap (λ before. before ++ after) is_one ∙ ap (λ after. here ∷ after) (split_after ∙ ap (λ one. one ++ rest) is_next)) ∙ ap Some is_kind

-- the token after the first one is no colon
pub no_colon : (text : List ℕ) (phrase : Phrase) (at : ℕ) (tokens : List Token) → (word text · phrase) at tokens
    → ((at : ℕ) (after : List Token) → phrase at after → is_colon (first_lexeme after) ≡ false) → sees_label (input at tokens) ≡ false
unfolding sees_label peek_second
no_colon text phrase at tokens (before, after, split, (here, is_one, is), says) next =
    ap (λ tokens. is_colon (first_lexeme (drop 1 tokens))) (split ∙ ap (λ before. before ++ after) is_one) ∙ next (at + length before) after says

pub no_colon_alone : (text : List ℕ) (at : ℕ) (tokens : List Token) → word text at tokens → sees_label (input at tokens) ≡ false
unfolding sees_label peek_second
no_colon_alone text at tokens (here, is_one, is) = ap (λ tokens. is_colon (first_lexeme (drop 1 tokens))) is_one

colon_not : (first : Lexeme → Bool) → first lexeme.Colon ≡ false → (kind : Lexeme) → first kind ≡ true → is_colon (Some kind) ≡ false
colon_not first never lexeme.Colon e = cc (never, e)
colon_not first never _ e = refl

-- tokens that begin with another kind
pub begins_otherwise : (first : Lexeme → Bool) (tokens : List Token) → first lexeme.Colon ≡ false → begins first tokens ≡ true → is_colon (first_lexeme tokens) ≡ false
begins_otherwise first [] never e = refl
begins_otherwise first (here ∷ rest) never e = colon_not first never (lexeme_of here) e

pub begun_otherwise : (first : Lexeme → Bool) (empty : Bool) (tokens : List Token) → first lexeme.Colon ≡ false → (begins first tokens ≡ true) ⊎ ((tokens ≡ []) × (empty ≡ true)) → is_colon (first_lexeme tokens) ≡ false
begun_otherwise first empty tokens never (inl e) = begins_otherwise first tokens never e
begun_otherwise first empty tokens never (inr none) = ap (λ tokens. is_colon (first_lexeme tokens)) none.0

pub starts_more : (text : List ℕ) (tokens rest : List Token) → Starts text tokens → Starts text (tokens ++ rest)
starts_more text tokens rest starts = record { first = starts.first; rest = starts.rest ++ rest; tokens_are = ap (λ tokens. tokens ++ rest) starts.tokens_are; is = starts.is }

-- a word that is seen is taken
pub took_word : (text : List ℕ) (i : Input) → sees_word text i ≡ true → Took (word text) i (after i)
unfolding expect_word
took_word text i e =
    let took = (word_piece text).sound i i.at (after i) (ap (λ found. taken_if found i) e) in
    record { tokens = took.tokens; rest = took.rest; at = took.at; says = word_made text i.at i.at took.tokens took.says }

pub word_begins : (text : List ℕ) (at : ℕ) (tokens : List Token) → word text at tokens → begins (only lexeme.Word) tokens ≡ true
word_begins text at tokens (here, is_one, is) = ap (begins (only lexeme.Word)) is_one ∙ word_kind text here is

-- a word and a piece before it
abbrev pub before_word : {A : Type 0} (piece : Piece A) (text : List ℕ) → Apart (only lexeme.Word) piece.more → Piece A
before_word piece text apart = before_ignored (word_piece text) (word text) (word_made text) (word_back text) piece apart

-- ---- two words that may be one

module _ (whole one other : List ℕ) (differ_whole : bytes_eq one whole ≡ false) where
  abbrev two : Piece ℕ
  two = after_word one (word_piece other)

  pub begun_joined : (joined : Bool) (at : ℕ) (tokens : List Token) → joined_words whole one other joined at tokens → (begins (only lexeme.Word) tokens ≡ true) ⊎ ((tokens ≡ []) × (false ≡ true))
  begun_joined true at tokens says = inl (word_begins whole at tokens says)
  begun_joined false at tokens (before, after, split, says, says_other) =
      inl (ap (begins (only lexeme.Word)) split ∙ begins_after (only lexeme.Word) before after (word_begins one at before says))

  pub sound_joined : (i : Input) (joined : Bool) (j : Input) → read.joined_words whole one other i ≡ Some (joined, j) → Took (joined_words whole one other joined) i j
  unfolding read.joined_words
  sound_joined i joined j e = either_way (sees_word whole i) (Some (true, after i)) (((λ _. false) <$> two.read) i) (Some (joined, j)) e
      (λ seen e.
      let same = some_pair_parts true joined (after i) j e in
      subst (λ joined. Took (joined_words whole one other joined) i j) same.0 (subst (λ j. Took (word whole) i j) same.1 (took_word whole i seen)))
      (λ unseen e.
      let (n, k, found, gives) = bind_some (two.read i) (λ n. pure false) joined j e in
      let same = some_pair_parts false joined k j gives in
      let took = two.sound i n k found in
      subst (λ joined. Took (joined_words whole one other joined) i j) same.0 (subst (λ j. Took (word one · word other) i j) same.1
      (record { tokens = took.tokens; rest = took.rest; at = took.at; says = forget n i.at took.tokens took.says }))) where
        forget : (n at : ℕ) (tokens : List Token) → (word one · word_at n other) at tokens → (word one · word other) at tokens
        forget n at tokens (before, after, split, says, says_other) = (before, after, split, says, word_made other n (at + length before) after says_other)

  pub complete_joined : (joined : Bool) (at : ℕ) (tokens rest : List Token) → joined_words whole one other joined at tokens → begins none_of rest ≡ false
      → read.joined_words whole one other (input at (tokens ++ rest)) ≡ Some (joined, input (at + length tokens) rest)
  unfolding read.joined_words
  complete_joined true at tokens rest says stops =
      let starts = starts_more whole tokens rest (starts_alone whole at tokens says) in
      let (here, is_one, is) = says in
      ap (λ seen. if seen then Some (true, after (input at (tokens ++ rest))) else ((λ _. false) <$> two.read) (input at (tokens ++ rest))) (sees_own whole at (tokens ++ rest) starts)
      ∙ ap (λ tokens. Some (true, input (at + 1) (drop 1 (tokens ++ rest)))) is_one ∙ ap (λ tokens. Some (true, input (at + length tokens) rest)) (sym is_one)
  complete_joined false at tokens rest says stops =
      let starts = starts_more one tokens rest (starts_with one (word other) at tokens says) in
      let (n, says_n) = number at tokens says in
      ap (λ seen. if seen then Some (true, after (input at (tokens ++ rest))) else ((λ _. false) <$> two.read) (input at (tokens ++ rest))) (sees_other one whole at (tokens ++ rest) starts differ_whole)
      ∙ bind_is (two.read (input at (tokens ++ rest))) (λ n. pure false) n (input (at + length tokens) rest) (Some (false, input (at + length tokens) rest)) (two.complete n at tokens rest says_n (stopped rest)) refl where
        number : (at : ℕ) (tokens : List Token) → (word one · word other) at tokens → (n : ℕ) × (word one · word_at n other) at tokens
        number at tokens (before, after, split, says, says_other) = let (n, says_n) = word_back other (at + length before) after says_other in (n, (before, after, split, says, says_n))

        stopped : (rest : List Token) → begins two.more rest ≡ false
        stopped [] = refl
        stopped (here ∷ rest) = refl

  abbrev pub joined_piece : Piece Bool
  joined_piece = record {
    phrase = joined_words whole one other;
    read = read.joined_words whole one other;
    first = only lexeme.Word;
    empty = false;
    more = none_of;
    begun = begun_joined;
    sound = sound_joined;
    complete = complete_joined;
  }

-- a parenthesis is no word
no_open_word : (text : List ℕ) (here : Token) → lexeme_of here ≡ lexeme.Open → is_word text here ≡ false
unfolding same_lexeme
no_open_word text here is = by (cases_Bool (is_word text here)) where
  by : (is_word text here ≡ true) ⊎ (is_word text here ≡ false) → is_word text here ≡ false
  by (inl e) = let f : false ≡ true = sym (ap (only lexeme.Word) is) ∙ word_kind text here e in absurd (cc f)
  by (inr e) = e

pub open_no_word : (text : List ℕ) (phrase : Phrase) (at : ℕ) (tokens : List Token) → (mark lexeme.Open · phrase) at tokens → sees_word text (input at tokens) ≡ false
unfolding sees_word
open_no_word text phrase at tokens (before, rest, split, (here, is_one, is), says) =
    ap (holds_first (is_word text)) (split ∙ ap (λ before. before ++ rest) is_one) ∙ no_open_word text here is
