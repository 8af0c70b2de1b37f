-- The tokens between two inputs.
use Rattle.std.proofs.Common.{◌≡◌, refl, sym, ◌∙◌, ap, subst, arith, ℕ, suc, ◌+◌, ◌≤◌, true, List, [], ◌∷◌, ◌++◌, length, drop, Option, Some, append_assoc, add-zero}
use Rattle.std.proofs.lemmas.Grind.{common_steps}
use Rattle.std.proofs.lemmas.Option.{some_pair_parts}
use Rattle.ftn_tree.specs.declared.token.Token.{Token}
use Rattle.ftn_tree.specs.declared.lexeme.Lexeme.{Lexeme}
use Rattle.ftn_tree.specs.Lexemes.{lexeme_of, same_lexeme}
use Rattle.ftn_tree.specs.Phrases.{Phrase, nothing, ◌·◌, token, mark, mark_at}
use Rattle.ftn_tree.proofs.PhraseLaws.{placed}
use Rattle.expr_parse.specs.steps.Input.{Input, input, after, taken_if, holds_first, first_lexeme, sees, peek, expect}
use Rattle.expr_parse.proofs.Pieces.{Took}
use Rattle.expr_parse.proofs.Tokens.{same_is, is_same}

-- where one phrase ends and the other begins
pub record Split (one other : Phrase) (i k : Input) : Type 0 where
  pub middle : Input
  pub first : Took one i middle
  pub second : Took other middle k

pub split_took : (one other : Phrase) (i k : Input) → Took (one · other) i k → Split one other i k
split_took one other i k took = by took.tokens took.rest took.at took.says where
  by : (tokens : List Token) → i.rest ≡ tokens ++ k.rest → k.at ≡ i.at + length tokens → (one · other) i.at tokens → Split one other i k
  by tokens rest at (before, after, split, says, says_other) = record {
    middle = input (i.at + length before) (after ++ k.rest);
    first = record { tokens = before; rest = rest ∙ ap (λ tokens. tokens ++ k.rest) split ∙ append_assoc before after k.rest; at = refl; says = says };
    second = record { tokens = after; rest = refl; at = at ∙ ap (λ tokens. i.at + length tokens) split ∙ sym (placed i.at before after); says = says_other };
  }

-- the same tokens, of which something else is told
pub retold : (one other : Phrase) (i j : Input) → ((at : ℕ) (tokens : List Token) → one at tokens → other at tokens) → Took one i j → Took other i j
retold one other i j tell took = record { tokens = took.tokens; rest = took.rest; at = took.at; says = tell i.at took.tokens took.says }

pub took_nothing : (i j : Input) → Took nothing i j → i ≡ j
took_nothing i j took =
    ap (λ row. input i.at row) (took.rest ∙ ap (λ tokens. tokens ++ j.rest) took.says)
    ∙ ap (λ at. input at j.rest) (sym (took.at ∙ ap (λ tokens. i.at + length tokens) took.says ∙ add-zero i.at))

pub none_took : (i : Input) → Took nothing i i
none_took i = record { tokens = []; rest = refl; at = sym (add-zero i.at); says = refl }

pub no_longer : (phrase : Phrase) (i j : Input) → Took phrase i j → length j.rest ≤ length i.rest
no_longer phrase i j took = by took.tokens i.rest j.rest took.rest where
  by : (tokens whole rest : List Token) → whole ≡ tokens ++ rest → length rest ≤ length whole
  by tokens whole rest e = grind (arith, common_steps)

-- one token
pub record TookOne (holds : ℕ → Token → Type 0) (i j : Input) : Type 0 where
  pub here : Token
  pub row : i.rest ≡ here ∷ j.rest
  pub next : after i ≡ j
  pub shorter : length i.rest ≡ suc (length j.rest)
  pub says : holds i.at here

pub took_token : (holds : ℕ → Token → Type 0) (i j : Input) → Took (token holds) i j → TookOne holds i j
took_token holds i j took = by took.tokens took.rest took.at took.says where
  by : (tokens : List Token) → i.rest ≡ tokens ++ j.rest → j.at ≡ i.at + length tokens → token holds i.at tokens → TookOne holds i j
  by tokens rest at (here, one, says) =
      let row : i.rest ≡ here ∷ j.rest = rest ∙ ap (λ tokens. tokens ++ j.rest) one in
      record {
        here = here;
        row = row;
        next = ap (λ row. input (i.at + 1) (drop 1 row)) row ∙ ap (λ at. input at j.rest) (sym (at ∙ ap (λ tokens. i.at + length tokens) one));
        shorter = ap (λ row. length row) row ∙ one_more j.rest here;
        says = says;
      } where
        one_more : (rest : List Token) (here : Token) → length (here ∷ rest) ≡ suc (length rest)
        one_more rest here = grind (arith, common_steps)

pub token_took : (holds : ℕ → Token → Type 0) (i : Input) (here : Token) (rest : List Token) → i.rest ≡ here ∷ rest → holds i.at here → Took (token holds) i (after i)
token_took holds i here rest row says = record {
  tokens = here ∷ [];
  rest = row ∙ ap (λ row. here ∷ drop 1 row) (sym row);
  at = refl;
  says = (here, refl, says);
}

pub sees_here : (kind : Lexeme) (i : Input) (here : Token) (rest : List Token) → i.rest ≡ here ∷ rest → sees kind i ≡ same_lexeme (lexeme_of here) kind
unfolding sees
sees_here kind i here rest row = ap (holds_first (λ here. same_lexeme (lexeme_of here) kind)) row

pub peek_here : (i : Input) (here : Token) (rest : List Token) → i.rest ≡ here ∷ rest → peek i ≡ Some (lexeme_of here)
unfolding peek
peek_here i here rest row = ap first_lexeme row

pub peek_seen : (kind : Lexeme) (i : Input) → sees kind i ≡ true → peek i ≡ Some kind
unfolding sees peek
peek_seen kind i e = by i.rest e where
  by : (row : List Token) → holds_first (λ here. same_lexeme (lexeme_of here) kind) row ≡ true → first_lexeme row ≡ Some kind
  by [] e = absurd (cc e)
  by (here ∷ rest) e = ap Some (same_is (lexeme_of here) kind e)

-- a mark
pub record Seen (kind : Lexeme) (i j : Input) : Type 0 where
  pub seen : sees kind i ≡ true
  pub peeked : peek i ≡ Some kind
  pub next : after i ≡ j
  pub expected : expect kind i ≡ Some (i.at, j)
  pub shorter : length i.rest ≡ suc (length j.rest)

pub took_mark : (kind : Lexeme) (i j : Input) → Took (mark kind) i j → Seen kind i j
unfolding expect
took_mark kind i j took =
    let one = took_token (λ at here. lexeme_of here ≡ kind) i j took in
    let seen = sees_here kind i one.here j.rest one.row ∙ is_same (lexeme_of one.here) kind one.says in
    record {
      seen = seen;
      peeked = peek_here i one.here j.rest one.row ∙ ap Some one.says;
      next = one.next;
      expected = ap (λ found. taken_if found i) seen ∙ ap (λ next. Some (i.at, next)) one.next;
      shorter = one.shorter;
    }

pub took_mark_at : (number : ℕ) (kind : Lexeme) (i j : Input) → Took (mark_at number kind) i j → (number ≡ i.at) × Seen kind i j
took_mark_at number kind i j took =
    let one = took_token (λ at here. (number ≡ at) × (lexeme_of here ≡ kind)) i j took in
    (one.says.0, took_mark kind i j (retold (mark_at number kind) (mark kind) i j (λ at tokens (here, single, says). (here, single, says.1)) took))

-- what was read is what is asked for
pub given : {A : Type 0} (phrase : A → Phrase) (made found : A) (i j k : Input) → ◌≡◌ {A = Option (A × Input)} (Some (made, j)) (Some (found, k)) → Took (phrase made) i j → Took (phrase found) i k
given phrase made found i j k e took =
    let same = some_pair_parts made found j k e in
    subst (λ found. Took (phrase found) i k) same.0 (subst (λ k. Took (phrase made) i k) same.1 took)
