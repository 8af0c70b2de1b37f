-- Readers that choose, and readers that test what they have read. They serve the proofs of the readers.
use Rattle.std.specs.Prelude.{ℕ, Bool, if◌then◌else◌, List, Option, Some, None}
use Rattle.ftn_tree.specs.declared.lexeme.Lexeme.{Lexeme}
use Rattle.ftn_tree.specs.declared.lexeme.Lexeme.TheVariants as lexeme
use Rattle.expr_parse.specs.steps.Input.{Input, Reader, ◌>>=◌, ◌>>◌, pure, refuse, expect, expect_word, sees, sees_word}
use Rattle.expr_parse.specs.steps.Combinators.{◌<$>◌}

-- the one where that holds, and else the other
abbrev pub choose : {A : Type 0} → (Input → Bool) → Reader A → Reader A → Reader A
choose test one other i = if test i then one i else other i

-- the one where that token comes next, and else the other
abbrev pub choose_by : {A : Type 0} → Lexeme → Reader A → Reader A → Reader A
choose_by kind = choose (sees kind)

-- the one where that word comes next, and else the other
abbrev pub choose_by_word : {A : Type 0} → List ℕ → Reader A → Reader A → Reader A
choose_by_word text = choose (sees_word text)

-- what passes the test
abbrev pub checked : {A : Type 0} → (A → Bool) → Reader A → Reader A
checked test read = read >>= (λ a. if test a then pure a else refuse)

-- what a word follows where that holds of it
abbrev pub trailed : {A : Type 0} → (A → Bool) → List ℕ → Reader A → Reader A
trailed test text read = read >>= (λ a. if test a then (expect_word text >> pure a) else pure a)

-- the number of the first token, and what is read
abbrev pub numbered : {A : Type 0} → Reader A → Reader (ℕ × A)
numbered read i = ((λ a. (i.at, a)) <$> read) i

abbrev pub given : {A : Type 0} → Option A → Reader A
given None = refuse
given (Some a) = pure a

-- what is picked from what is read
abbrev pub picked : {A B : Type 0} → (A → Option B) → Reader A → Reader B
picked pick read = read >>= (λ a. given (pick a))

-- what a token follows
abbrev pub closed_by : {A : Type 0} → Lexeme → Reader A → Reader A
closed_by kind read = read >>= (λ a. expect kind >> pure a)

-- what stands in parentheses
abbrev pub enclosed : {A : Type 0} → Reader A → Reader A
enclosed read = expect lexeme.Open >> closed_by lexeme.Close read
