-- Phrases one after the other, of the same tokens.
use Rattle.std.proofs.Common.{◌≡◌, refl, sym, ◌∙◌, ap, subst, arith, ℕ, ◌+◌, List, [], ◌∷◌, ◌++◌, length, append_assoc, add-zero}
use Rattle.std.proofs.lemmas.List.{append-nil}
use Rattle.std.proofs.lemmas.Grind.{common_steps}
use Rattle.ftn_tree.specs.declared.token.Token.{Token}
use Rattle.ftn_tree.specs.Phrases.{Phrase, ◌·◌, nothing}

pub placed : (at : ℕ) (one other : List Token) → (at + length one) + length other ≡ at + length (one ++ other)
placed at one other = grind (arith, common_steps)

-- where three phrases follow one another
pub to_right : (one other third : Phrase) (at : ℕ) (tokens : List Token) → ((one · other) · third) at tokens → (one · (other · third)) at tokens
to_right one other third at tokens (both, after, split, (before, middle, split_both, says_one, says_other), says_third) = (
  before,
  middle ++ after,
  split ∙ ap (λ both. both ++ after) split_both ∙ append_assoc before middle after,
  says_one,
  (middle, after, refl, says_other, subst (λ place. third place after) (ap (λ both. at + length both) split_both ∙ sym (placed at before middle)) says_third),
)

pub to_left : (one other third : Phrase) (at : ℕ) (tokens : List Token) → (one · (other · third)) at tokens → ((one · other) · third) at tokens
to_left one other third at tokens (before, both, split, says_one, (middle, after, split_both, says_other, says_third)) = (
  before ++ middle,
  after,
  split ∙ ap (λ both. before ++ both) split_both ∙ sym (append_assoc before middle after),
  (before, middle, refl, says_one, says_other),
  subst (λ place. third place after) (placed at before middle) says_third,
)

pub drop_none : (phrase : Phrase) (at : ℕ) (tokens : List Token) → (nothing · phrase) at tokens → phrase at tokens
drop_none phrase at tokens (before, after, split, none, says) =
    subst (λ tokens. phrase at tokens) (sym (split ∙ ap (λ before. before ++ after) none))
    (subst (λ place. phrase place after) (ap (λ before. at + length before) none ∙ add-zero at) says)

pub add_none : (phrase : Phrase) (at : ℕ) (tokens : List Token) → phrase at tokens → (nothing · phrase) at tokens
add_none phrase at tokens says = ([], tokens, refl, refl, subst (λ place. phrase place tokens) (sym (add-zero at)) says)

pub drop_end : (phrase : Phrase) (at : ℕ) (tokens : List Token) → (phrase · nothing) at tokens → phrase at tokens
drop_end phrase at tokens (before, after, split, says, none) =
    subst (λ tokens. phrase at tokens) (sym (split ∙ ap (λ after. before ++ after) none ∙ append-nil before)) says

pub add_end : (phrase : Phrase) (at : ℕ) (tokens : List Token) → phrase at tokens → (phrase · nothing) at tokens
add_end phrase at tokens says = (tokens, [], sym (append-nil tokens), says, refl)

-- tokens that begin with that one
pub led_by : (here : Token) (before after rest tokens : List Token) → tokens ≡ before ++ after → before ≡ here ∷ [] → after ≡ rest → tokens ≡ here ∷ rest
led_by here before after rest tokens split alone is = split ∙ ap (λ before. before ++ after) alone ∙ ap (λ after. here ∷ after) is
