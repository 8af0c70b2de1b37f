-- How long rows of tokens are, and how lists of what they say join.
use Rattle.std.proofs.Common.{◌≡◌, sym, ◌∙◌, subst, arith, ℕ, suc, ◌+◌, ◌≤◌, List, [], ◌∷◌, ◌++◌, length, append_assoc}
use Rattle.std.proofs.lemmas.Grind.{common_steps}
use Rattle.std.proofs.lemmas.List.{append-nil}
use Rattle.ftn_tree.specs.declared.token.Token.{Token}

pub regrouped : {A : Type 0} (found : List A) (a b : A) (more : List A) → (found ++ a ∷ []) ++ b ∷ more ≡ found ++ a ∷ b ∷ more
regrouped found a b more = append_assoc found (a ∷ []) (b ∷ more)

pub none_left : (tokens before : List Token) → tokens ≡ before ++ [] → before ≡ tokens
none_left tokens before e = sym (e ∙ append-nil before)

pub enough : (tokens rest : List Token) → length tokens ≤ length (tokens ++ rest)
enough tokens rest = grind (arith, common_steps)

longer : (before after : List Token) → 1 ≤ length before → 1 ≤ length (before ++ after)
longer before after e = grind (arith, common_steps)

pub grown : (tokens before after : List Token) → tokens ≡ before ++ after → 1 ≤ length before → 1 ≤ length tokens
grown tokens before after split e = subst (λ tokens. 1 ≤ length tokens) (sym split) (longer before after e)

pub too_few : (tokens : List Token) → 1 ≤ length tokens → length tokens ≤ 0 → ⊥
too_few tokens e f = grind (arith, common_steps)

-- ---- some tokens, and those after them

pub none_fits : (before after : List Token) → 1 ≤ length before → length (before ++ after) ≤ 0 → ⊥
none_fits before after e f = grind (arith, common_steps)

pub fewer_after : (n : ℕ) (before after : List Token) → 1 ≤ length before → length (before ++ after) ≤ suc n → length after ≤ n
fewer_after n before after e f = grind (arith, common_steps)

-- ---- and a comma between them

pub after_comma : (at : ℕ) (before later : List Token) (comma : Token) → ((at + length before) + 1) + length later ≡ at + length (before ++ comma ∷ later)
after_comma at before later comma = grind (arith, common_steps)

pub fewer_later : (n : ℕ) (before later : List Token) (comma : Token) → length (before ++ comma ∷ later) ≤ suc n → length later ≤ n
fewer_later n before later comma e = grind (arith, common_steps)
