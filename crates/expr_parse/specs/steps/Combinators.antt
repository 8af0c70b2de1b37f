-- Readers made of readers. They serve the proofs of the readers: each has one phrase, and its laws stand in `proofs/Pieces`.
use Rattle.std.specs.Prelude.{ℕ, zero, suc, if◌then◌else◌, List, [], ◌∷◌, ◌++◌, length, Option, Some, None}
use Rattle.ftn_tree.specs.declared.lexeme.Lexeme.{Lexeme}
use Rattle.ftn_tree.specs.declared.lexeme.Lexeme.TheVariants as lexeme
use Rattle.expr_parse.specs.steps.Input.{Reader, ◌>>=◌, ◌>>◌, pure, refuse, eat, sees, expect, is_done, finish}

infixr 11 ◌<$>◌
abbrev pub ◌<$>◌ : {A B : Type 0} → (A → B) → Reader A → Reader B
f <$> read = read >>= (λ a. pure (f a))

-- one after the other
infixr 12 ◌⊗◌
abbrev pub ◌⊗◌ : {A B : Type 0} → Reader A → Reader B → Reader (A × B)
one ⊗ other = one >>= (λ a. other >>= (λ b. pure (a, b)))

-- where that token comes next
abbrev pub option_if : {A : Type 0} → Lexeme → Reader A → Reader (Option A)
option_if kind read i = if sees kind i then (Some <$> read) i else Some (None, i)

-- where a token comes next
abbrev pub option_unless_done : {A : Type 0} → Reader A → Reader (Option A)
option_unless_done read i = if is_done i then Some (None, i) else (Some <$> read) i

-- one or more, with commas between them, added to those found so far; the number bounds the turns
unfoldable pub separated_from : {A : Type 0} → Reader A → ℕ → List A → Reader (List A)
separated_from read zero found = refuse
separated_from read (suc n) found =
    read >>= (λ a. eat lexeme.Comma >>= (λ again. if again then separated_from read n (found ++ a ∷ []) else pure (found ++ a ∷ [])))

-- one or more, with commas between them. Each takes a token, so the count of tokens bounds the turns
abbrev pub separated : {A : Type 0} → Reader A → Reader (List A)
separated read i = separated_from read (length i.rest) [] i

-- none or more, each with its comma before it, added to those found so far
unfoldable pub each_after_comma_from : {A : Type 0} → Reader A → ℕ → List A → Reader (List A)
each_after_comma_from read zero found = pure found
each_after_comma_from read (suc n) found =
    eat lexeme.Comma >>= (λ again. if again then (read >>= (λ a. each_after_comma_from read n (found ++ a ∷ []))) else pure found)

abbrev pub each_after_comma : {A : Type 0} → Reader A → Reader (List A)
each_after_comma read i = each_after_comma_from read (length i.rest) [] i

-- in parentheses
abbrev pub parenthesized : {A : Type 0} → Reader A → Reader A
parenthesized read = expect lexeme.Open >> read >>= (λ a. expect lexeme.Close >> pure a)

-- the rest of a list in parentheses, which may be empty
abbrev pub rest_of_list : {A : Type 0} → Reader A → Reader (List A)
rest_of_list read = eat lexeme.Close >>= (λ none. if none then pure [] else (separated read >>= (λ all. expect lexeme.Close >> pure all)))

-- a list in parentheses, which may be empty
abbrev pub list_in_parens : {A : Type 0} → Reader A → Reader (List A)
list_in_parens read = expect lexeme.Open >> rest_of_list read

-- all tokens that are left
abbrev pub to_the_end : {A : Type 0} → Reader A → Reader A
to_the_end read = read >>= (λ a. finish >> pure a)
