-- Phrases, and the names in them.
use Rattle.std.proofs.Common.{◌≡◌, ◌≢◌, inl, inr, refl, sym, ◌∙◌, ap, subst, ℕ, ◌+◌, Bool, true, false, List, [], ◌∷◌, ◌++◌, length, Option, Some, None}
use Rattle.std.specs.List.{list_any, flat_map}
use Rattle.std.proofs.lemmas.List.{map-append, append-nil}
use Rattle.std.proofs.lemmas.Slice.Eq.{bytes_eq-Decides}
use Rattle.ftn_tree.specs.declared.lexeme.Lexeme.{Lexeme}
use Rattle.ftn_tree.specs.declared.lexeme.Lexeme.TheVariants as lexeme
use Rattle.ftn_tree.specs.declared.mention.Mention.{Mention}
use Rattle.ftn_tree.specs.declared.token.Token.{Token}
use Rattle.ftn_tree.specs.declared.token.TokenKind.{TokenKind}
use Rattle.ftn_tree.specs.declared.token.TokenKind.TheVariants as kinds
use Rattle.ftn_tree.specs.Lexemes.{lexeme_of, is_word_at, is_text}
use Rattle.ftn_tree.specs.Misfits.{is_word_token_at}
use Rattle.ftn_tree.specs.Phrases.{Phrase, nothing, ◌·◌, token, word, word_at, mark, mark_at, name, whether, maybe, provided, in_parens, after_commas, commas, commas_or_none, each}
use Rattle.ftn_tree.specs.RowNames.{grammar_words, IsNoName, AreNames, numbers_of, Respelled}
use Rattle.ftn_tree.proofs.RowLaws.{joined}
use Rattle.ftn_tree.proofs.Respellings.{Parted, parted, in_front, in_back, nothing_respelled, one_respelled}

-- the names in tokens of that phrase are those of these mentions, and may be spelled in any way
pub record Names (letters : Bool) (phrase : Phrase) (mentions : List Mention) : Type 0 where
  pub say : (at : ℕ) (tokens : List Token) → phrase at tokens → AreNames letters at tokens (numbers_of mentions)
  pub free : (at : ℕ) (tokens others : List Token) → phrase at tokens → Respelled (numbers_of mentions) at tokens others → phrase at others

-- a phrase without names
pub no_names : {letters : Bool} (phrase : Phrase) → ((at : ℕ) (tokens : List Token) → phrase at tokens → AreNames letters at tokens []) → Names letters phrase []
no_names phrase say = record { say = say; free = λ at tokens others says alike. subst (phrase at) (nothing_respelled at tokens others alike) says }

-- no tokens are of this form
pub never_named : {letters : Bool} {mentions : List Mention} (phrase : Phrase) → ((at : ℕ) (tokens : List Token) → phrase at tokens → ⊥) → Names letters phrase mentions
never_named phrase none = record { say = λ at tokens says. absurd (none at tokens says); free = λ at tokens others says. absurd (none at tokens says) }

-- ---- nothing, and one phrase after another

none_said : (letters : Bool) (at : ℕ) (tokens : List Token) → tokens ≡ [] → AreNames letters at tokens []
none_said letters at tokens says = subst (λ tokens. AreNames letters at tokens []) (sym says) refl

pub none_named : {letters : Bool} → Names letters nothing []
none_named = no_names nothing (none_said _)

both_said : (letters : Bool) (one other : Phrase) (first second : List Mention) → Names letters one first → Names letters other second
    → (at : ℕ) (tokens : List Token) → (one · other) at tokens → AreNames letters at tokens (numbers_of (first ++ second))
both_said letters one other first second a b at tokens (before, after, split, says, says_rest) =
    subst (λ tokens. AreNames letters at tokens (numbers_of (first ++ second))) (sym split)
    (subst (AreNames letters at (before ++ after)) (sym (map-append (λ (m : Mention). m.token) first second))
    (joined letters before after at (numbers_of first) (numbers_of second) (a.say at before says) (b.say (at + length before) after says_rest)))

-- each half stays what it is, with its own names spelled otherwise
both_free : (letters : Bool) (one other : Phrase) (first second : List Mention) → Names letters one first → Names letters other second
    → (at : ℕ) (tokens others : List Token) → (one · other) at tokens → Respelled (numbers_of (first ++ second)) at tokens others → (one · other) at others
both_free letters one other first second a b at tokens others (before, after, split, says, says_rest) alike = by (parted (numbers_of first ++ numbers_of second) at before after others alike_parts) where
  alike_parts : Respelled (numbers_of first ++ numbers_of second) at (before ++ after) others
  alike_parts =
      subst (λ numbers. Respelled numbers at (before ++ after) others) (map-append (λ (m : Mention). m.token) first second)
      (subst (λ tokens. Respelled (numbers_of (first ++ second)) at tokens others) split alike)

  by : Parted (numbers_of first ++ numbers_of second) at before after others → (one · other) at others
  by p = (
    p.front,
    p.back,
    p.whole,
    a.free at before p.front says (in_front letters (numbers_of first) (numbers_of second) at before after p.front (b.say (at + length before) after says_rest) p.fronts),
    subst (λ n. other (at + n) p.back) p.long
        (b.free (at + length before) after p.back says_rest (in_back letters (numbers_of first) (numbers_of second) at before after p.back (a.say at before says) p.backs)),
  )

pub both : {letters : Bool} {one other : Phrase} {first second : List Mention}
    → Names letters one first → Names letters other second → Names letters (one · other) (first ++ second)
both a b = record { say = λ at tokens says. both_said _ _ _ _ _ a b at tokens says; free = λ at tokens others says alike. both_free _ _ _ _ _ a b at tokens others says alike }

-- ---- words and marks

pub text_is : (value text : List ℕ) → is_text value text ≡ true → value ≡ text
text_is value text e = (bytes_eq-Decides value text).0 e

-- some word is this one
abbrev pub is_listed : List ℕ → Bool
is_listed text = list_any (λ one. is_text text one) grammar_words

word_by : (kind : TokenKind) (value text : List ℕ) → is_listed text ≡ true → is_word_at kind value text ≡ true → list_any (λ text. is_word_at kind value text) grammar_words ≡ true
word_by kinds.Word value text listed e = ap (λ text. list_any (λ one. is_text text one) grammar_words) (text_is value text e) ∙ listed
word_by _ value text listed e = absurd (cc e)

pub token_named : (letters : Bool) (holds : ℕ → Token → Type 0) → ((at : ℕ) (here : Token) → holds at here → IsNoName letters here) → Names letters (token holds) []
token_named letters holds none = no_names (token holds) of where
  of : (at : ℕ) (tokens : List Token) → token holds at tokens → AreNames letters at tokens []
  of at tokens (here, split, says) = subst (λ tokens. AreNames letters at tokens []) (sym split) (inr (none at here says, refl))

pub word_named : {letters : Bool} (text : List ℕ) → is_listed text ≡ true → Names letters (word text) []
word_named text listed = token_named _ _ (λ at here says. inr (inl (word_by here.kind here.value text listed says)))

pub word_at_named : {letters : Bool} (number : ℕ) (text : List ℕ) → is_listed text ≡ true → Names letters (word_at number text) []
word_at_named number text listed = token_named _ _ (λ at here says. inr (inl (word_by here.kind here.value text listed says.1)))

-- a token that is no word
pub other_kind : (here : Token) (kind : Lexeme) → is_word_token_at kind ≡ false → lexeme_of here ≡ kind → lexeme_of here ≢ lexeme.Word
other_kind here kind other is word = let e : true ≡ false = ap is_word_token_at (sym word ∙ is) ∙ other in cc

pub mark_named : {letters : Bool} (kind : Lexeme) → is_word_token_at kind ≡ false → Names letters (mark kind) []
mark_named kind other = token_named _ _ (λ at here says. inl (other_kind here kind other says))

pub mark_at_named : {letters : Bool} (number : ℕ) (kind : Lexeme) → is_word_token_at kind ≡ false → Names letters (mark_at number kind) []
mark_at_named number kind other = token_named _ _ (λ at here says. inl (other_kind here kind other says.1))

-- ---- names

name_said : (letters : Bool) (m : Mention) (at : ℕ) (tokens : List Token) → name m.token at tokens → AreNames letters at tokens (m.token ∷ [])
name_said letters m at tokens (here, split, (is, says)) = subst (λ tokens. AreNames letters at tokens (m.token ∷ [])) (sym split) (inl ([], says, ap (λ n. n ∷ []) is, refl))

name_free : (number at : ℕ) (tokens others : List Token) → name number at tokens → Respelled (number ∷ []) at tokens others → name number at others
name_free number at tokens others (here, split, (is, says)) alike =
    let (other, row_is, word) = one_respelled (number ∷ []) at here others says (subst (λ tokens. Respelled (number ∷ []) at tokens others) split alike) in
    (other, row_is, (is, word))

pub name_named : {letters : Bool} (m : Mention) → Names letters (name m.token) (m ∷ [])
name_named m = record { say = λ at tokens says. name_said _ m at tokens says; free = λ at tokens others says alike. name_free m.token at tokens others says alike }

-- ---- a phrase that may be left out, or that is so where something holds

-- the same names, listed in another way
pub same_names : {letters : Bool} {phrase : Phrase} {first second : List Mention} → first ≡ second → Names letters phrase first → Names letters phrase second
same_names e a = subst (Names _ _) e a

pub whether_named : {letters : Bool} {phrase : Phrase} (written : Bool) → Names letters phrase [] → Names letters (whether written phrase) []
whether_named true a = a
whether_named false a = none_named

pub maybe_none : {letters : Bool} {A : Type 0} {phrase : A → Phrase} → ((a : A) → Names letters (phrase a) []) → (written : Option A) → Names letters (maybe phrase written) []
maybe_none named None = none_named
maybe_none named (Some a) = named a

pub provided_named : {letters : Bool} {phrase : Phrase} {mentions : List Mention} (holds : Bool) → Names letters phrase mentions → Names letters (provided holds phrase) mentions
provided_named holds a = record { say = λ at tokens says. a.say at tokens says.1; free = λ at tokens others says alike. (says.0, a.free at tokens others says.1 alike) }

-- ---- more after, or before, that has no names

pub ended : {letters : Bool} {one other : Phrase} {mentions : List Mention} → Names letters one mentions → Names letters other [] → Names letters (one · other) mentions
ended a b = same_names (append-nil _) (both a b)

pub parens_named : {letters : Bool} {phrase : Phrase} {mentions : List Mention} → Names letters phrase mentions → Names letters (in_parens phrase) mentions
parens_named a = both (mark_named lexeme.Open refl) (ended a (mark_named lexeme.Close refl))

-- ---- lists

pub after_commas_named : {letters : Bool} {A : Type 0} {phrase : A → Phrase} {found : A → List Mention} → ((a : A) → Names letters (phrase a) (found a))
    → (items : List A) → Names letters (after_commas phrase items) (flat_map found items)
after_commas_named named [] = none_named
after_commas_named named (a ∷ rest) = both (mark_named lexeme.Comma refl) (both (named a) (after_commas_named named rest))

pub commas_named : {letters : Bool} {A : Type 0} {phrase : A → Phrase} {found : A → List Mention} → ((a : A) → Names letters (phrase a) (found a))
    → (items : List A) → Names letters (commas phrase items) (flat_map found items)
commas_named named [] = never_named _ (λ at tokens says. says)
commas_named named (a ∷ rest) = let all = both (named a) (after_commas_named named rest) in record { say = all.say; free = all.free }

pub commas_or_none_named : {letters : Bool} {A : Type 0} {phrase : A → Phrase} {found : A → List Mention} → ((a : A) → Names letters (phrase a) (found a))
    → (items : List A) → Names letters (commas_or_none phrase items) (flat_map found items)
commas_or_none_named named [] = none_named
commas_or_none_named named (a ∷ rest) = commas_named named (a ∷ rest)

pub each_named : {letters : Bool} {A : Type 0} {phrase : A → Phrase} {found : A → List Mention} → ((a : A) → Names letters (phrase a) (found a))
    → (items : List A) → Names letters (each phrase items) (flat_map found items)
each_named named [] = none_named
each_named named (a ∷ rest) = both (named a) (each_named named rest)

pub none_each : {A : Type 0} (items : List A) → flat_map {A = Mention} (λ (a : A). []) items ≡ []
none_each [] = refl
none_each (a ∷ rest) = none_each rest
