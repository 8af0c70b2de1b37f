-- The steps that every reader of tokens is made of. They serve the proofs of the readers.
use Rattle.std.specs.Prelude.{◌≡◌, ◌-◌, ◌+◌, ℕ, Bool, true, false, if◌then◌else◌, List, [], ◌∷◌, take, drop, Option, Some, None, Result, Ok, Err}
use Rattle.ftn_base.specs.declared.place.Range.{Range}
use Rattle.ftn_tree.specs.declared.token.Token.{Token}
use Rattle.ftn_tree.specs.declared.lexeme.Lexeme.{Lexeme}
use Rattle.ftn_tree.specs.declared.lexeme.Lexeme.TheVariants as lexeme
use Rattle.ftn_tree.specs.Lexemes.{lexeme_of, is_word, same_lexeme}
use Rattle.expr_parse.specs.declared.fault.Misfit.{Misfit}
use Rattle.expr_parse.specs.declared.fault.Misfit.TheVariants.{NoFit, NoMemory}

-- the number of the next token, and the tokens that are left
pub record Input : Type 0 where
  pub at : ℕ
  pub rest : List Token

abbrev pub input : ℕ → List Token → Input
input at rest = record { at = at; rest = rest }

-- the tokens of a range of numbers, as far as they are there
abbrev pub tokens_in : List Token → Range → List Token
tokens_in tokens range = take (range.end - range.start) (drop range.start tokens)

-- what a reader gives and what it leaves, or nothing where the tokens don't have its form
abbrev pub Outcome : Type 0 → Type 0
Outcome A = Option (A × Input)

abbrev pub Reader : Type 0 → Type 0
Reader A = Input → Outcome A

abbrev pub and_then : {A B : Type 0} → Outcome A → (A → Reader B) → Outcome B
and_then (Some found) next = next found.0 found.1
and_then None next = None

infixl 10 ◌>>=◌
abbrev pub ◌>>=◌ : {A B : Type 0} → Reader A → (A → Reader B) → Reader B
one >>= next = λ i. and_then (one i) next

infixl 10 ◌>>◌
abbrev pub ◌>>◌ : {A B : Type 0} → Reader A → Reader B → Reader B
one >> other = one >>= (λ _. other)

abbrev pub pure : {A : Type 0} → A → Reader A
pure a = λ i. Some (a, i)

abbrev pub refuse : {A : Type 0} → Reader A
refuse = λ i. None

-- one token more has been read
abbrev pub after : Input → Input
after i = input (i.at + 1) (drop 1 i.rest)

abbrev pub holds_first : (Token → Bool) → List Token → Bool
holds_first test [] = false
holds_first test (here ∷ rest) = test here

abbrev pub first_lexeme : List Token → Option Lexeme
first_lexeme [] = None
first_lexeme (here ∷ rest) = Some (lexeme_of here)

-- what the next token is in the grammar
unfoldable pub peek : Input → Option Lexeme
peek i = first_lexeme i.rest

-- the same of the token after that
unfoldable pub peek_second : Input → Option Lexeme
peek_second i = first_lexeme (drop 1 i.rest)

-- the next token is that
unfoldable pub sees : Lexeme → Input → Bool
sees kind i = holds_first (λ here. same_lexeme (lexeme_of here) kind) i.rest

-- the next token is that word
unfoldable pub sees_word : List ℕ → Input → Bool
sees_word text i = holds_first (is_word text) i.rest

abbrev pub done_at : List Token → Bool
done_at [] = true
done_at (here ∷ rest) = false

-- no token is left
unfoldable pub is_done : Input → Bool
is_done i = done_at i.rest

abbrev pub after_if : Bool → Input → Input
after_if true i = after i
after_if false i = i

-- takes that token, if it comes next
abbrev pub eat : Lexeme → Reader Bool
eat kind i = Some (sees kind i, after_if (sees kind i) i)

abbrev pub eat_word : List ℕ → Reader Bool
eat_word text i = Some (sees_word text i, after_if (sees_word text i) i)

-- the next token's number, where the test holds
abbrev pub taken_if : Bool → Reader ℕ
taken_if true i = Some (i.at, after i)
taken_if false i = None

-- that token, which gives its number
unfoldable pub expect : Lexeme → Reader ℕ
expect kind i = taken_if (sees kind i) i

unfoldable pub expect_word : List ℕ → Reader ℕ
expect_word text i = taken_if (sees_word text i) i

abbrev pub name : Reader ℕ
name = expect lexeme.Word

-- no token may be left
unfoldable pub finish : Reader (Unit {0})
finish i = if is_done i then Some (tt, i) else None

-- that value, where no token is left
abbrev pub finish_with : {A : Type 0} → A → Reader A
finish_with a = finish >> pure a

-- what a function that reads ensures: the reader's outcome, unless memory fails
abbrev pub Gives : {A : Type 0} → Outcome A → Result A Misfit → Input → Type 0
Gives outcome (Ok a) new = outcome ≡ Some (a, new)
Gives outcome (Err NoFit) new = outcome ≡ None
Gives outcome (Err NoMemory) new = Unit {0}
