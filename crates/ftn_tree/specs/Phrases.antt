-- Phrases: rows of tokens that have a form. A phrase says of a number and a list of tokens that these tokens, the first of which has
-- that number, are of the form.
use Rattle.std.specs.Prelude.{◌≡◌, ℕ, ◌+◌, Bool, true, false, List, [], ◌∷◌, ◌++◌, length, Option, Some, None}
use Rattle.ftn_tree.specs.declared.token.Token.{Token}
use Rattle.ftn_tree.specs.declared.lexeme.Lexeme.{Lexeme}
use Rattle.ftn_tree.specs.declared.lexeme.Lexeme.TheVariants as lexeme
use Rattle.ftn_tree.specs.Lexemes.{lexeme_of, is_word}

abbrev pub Phrase : Type 1
Phrase = ℕ → List Token → Type 0

-- no token
abbrev pub nothing : Phrase
nothing at tokens = tokens ≡ []

-- one phrase, and then another one
infixr 6 ◌·◌
abbrev pub ◌·◌ : Phrase → Phrase → Phrase
(one · other) at tokens =
    (before : List Token) × (after : List Token) × (tokens ≡ before ++ after) × one at before × other (at + length before) after

-- one token, of which that holds
abbrev pub token : (ℕ → Token → Type 0) → Phrase
token holds at tokens = (here : Token) × (tokens ≡ here ∷ []) × holds at here

-- that word, in any case of its letters
abbrev pub word : List ℕ → Phrase
word text = token (λ at here. is_word text here ≡ true)

-- that word, which has that number
abbrev pub word_at : ℕ → List ℕ → Phrase
word_at number text = token (λ at here. (number ≡ at) × (is_word text here ≡ true))

-- a token that is that in the grammar
abbrev pub mark : Lexeme → Phrase
mark kind = token (λ at here. lexeme_of here ≡ kind)

-- the same, with its number
abbrev pub mark_at : ℕ → Lexeme → Phrase
mark_at number kind = token (λ at here. (number ≡ at) × (lexeme_of here ≡ kind))

-- a name, which has that number
abbrev pub name : ℕ → Phrase
name number = mark_at number lexeme.Word

-- a phrase that may be left out
abbrev pub whether : Bool → Phrase → Phrase
whether true phrase = phrase
whether false phrase = nothing

abbrev pub maybe : {A : Type 0} → (A → Phrase) → Option A → Phrase
maybe phrase None = nothing
maybe phrase (Some a) = phrase a

-- no tokens have this form
abbrev pub never : Phrase
never at tokens = ⊥

-- a phrase, where that holds
abbrev pub provided : Bool → Phrase → Phrase
provided holds phrase at tokens = (holds ≡ true) × phrase at tokens

abbrev pub in_parens : Phrase → Phrase
in_parens phrase = mark lexeme.Open · phrase · mark lexeme.Close

-- those after the first one of a list, each with its comma before it
abbrev pub after_commas : {A : Type 0} → (A → Phrase) → List A → Phrase
after_commas phrase [] = nothing
after_commas phrase (a ∷ rest) = mark lexeme.Comma · phrase a · after_commas phrase rest

-- one or more, with commas between them
abbrev pub commas : {A : Type 0} → (A → Phrase) → List A → Phrase
commas phrase [] at tokens = ⊥
commas phrase (a ∷ rest) at tokens = (phrase a · after_commas phrase rest) at tokens

-- none or more, with commas between them
abbrev pub commas_or_none : {A : Type 0} → (A → Phrase) → List A → Phrase
commas_or_none phrase [] = nothing
commas_or_none phrase (a ∷ rest) = commas phrase (a ∷ rest)

-- one after another, as many as there are
abbrev pub each : {A : Type 0} → (A → Phrase) → List A → Phrase
each phrase [] = nothing
each phrase (a ∷ rest) = phrase a · each phrase rest
