-- Pieces of one token that stands for a value.
use Rattle.std.proofs.Common.{◌≡◌, refl, sym, ◌∙◌, ap, subst, ℕ, ◌+◌, true, false, List, [], ◌∷◌, ◌++◌, length, Option, Some, None, ◌⊎◌, inl}
use Rattle.std.proofs.lemmas.Option.{some_pair_parts}
use Rattle.ftn_tree.specs.declared.token.Token.{Token}
use Rattle.ftn_tree.specs.declared.lexeme.Lexeme.{Lexeme}
use Rattle.ftn_tree.specs.Lexemes.{lexeme_of}
use Rattle.ftn_tree.specs.Phrases.{Phrase, token}
use Rattle.expr_parse.specs.steps.Input.{Input, input, Reader, and_then, ◌>>=◌, pure, refuse, expect, sees, taken_if}
use Rattle.expr_parse.proofs.Pieces.{Piece, Took, begins}
use Rattle.expr_parse.proofs.Tokens.{only, none_of, is_same}

-- tokens of one kind that stand for values, from which and the token's number what is read is made
module _ {A B : Type 0} (kind : Lexeme) (value : Token → Option A) (make : ℕ → A → B)
    (has_kind : (here : Token) (a : A) → value here ≡ Some a → lexeme_of here ≡ kind) where
  abbrev pub valued_phrase : B → Phrase
  valued_phrase b = token (λ at here. (a : A) × (value here ≡ Some a) × (make at a ≡ b))

  abbrev pub at_front : List Token → Option A
  at_front [] = None
  at_front (here ∷ rest) = value here

  abbrev pub taken : Option A → Reader B
  taken None = refuse
  taken (Some a) = expect kind >>= (λ number. pure (make number a))

  abbrev pub read_value : Reader B
  read_value i = taken (at_front i.rest) i

  pub begun_value : (b : B) (at : ℕ) (tokens : List Token) → valued_phrase b at tokens → (begins (only kind) tokens ≡ true) ⊎ ((tokens ≡ []) × (false ≡ true))
  begun_value b at tokens (here, split, (a, is, made)) = inl (subst (λ tokens. begins (only kind) tokens ≡ true) (sym split) (is_same (lexeme_of here) kind (has_kind here a is)))

  -- where the token has the value it is read
  pub reads_here : (at : ℕ) (here : Token) (rest : List Token) (a : A) → value here ≡ Some a → read_value (input at (here ∷ rest)) ≡ Some (make at a, input (at + 1) rest)
  unfolding expect sees
  reads_here at here rest a is =
      ap (λ found. taken found (input at (here ∷ rest))) is
      ∙ ap (λ found. and_then (taken_if found (input at (here ∷ rest))) (λ number. pure (make number a))) (is_same (lexeme_of here) kind (has_kind here a is))

  sound_by : (i : Input) (b : B) (j : Input) (rest : List Token) → i.rest ≡ rest → read_value (input i.at rest) ≡ Some (b, j) → Took (valued_phrase b) i j
  sound_by i b j [] is e = absurd (cc e)
  sound_by i b j (here ∷ rest) is e = by (value here) refl e where
    by : (found : Option A) → value here ≡ found → taken found (input i.at (here ∷ rest)) ≡ Some (b, j) → Took (valued_phrase b) i j
    by None has e = absurd (cc e)
    by (Some a) has e =
        let same = some_pair_parts (make i.at a) b (input (i.at + 1) rest) j (sym (reads_here i.at here rest a has) ∙ ap (λ found. taken found (input i.at (here ∷ rest))) has ∙ e) in
        subst (λ j. Took (valued_phrase b) i j) same.1 (record {
          tokens = here ∷ [];
          rest = is;
          at = refl;
          says = (here, refl, (a, has, same.0));
        })

  pub sound_value : (i : Input) (b : B) (j : Input) → read_value i ≡ Some (b, j) → Took (valued_phrase b) i j
  sound_value i b j e = sound_by i b j i.rest refl e

  pub complete_value : (b : B) (at : ℕ) (tokens rest : List Token) → valued_phrase b at tokens → begins none_of rest ≡ false → read_value (input at (tokens ++ rest)) ≡ Some (b, input (at + length tokens) rest)
  complete_value b at tokens rest (here, split, (a, is, made)) stops =
      subst (λ tokens. read_value (input at (tokens ++ rest)) ≡ Some (b, input (at + length tokens) rest)) (sym split)
      (reads_here at here rest a is ∙ ap (λ b. Some (b, input (at + 1) rest)) made)

  abbrev pub valued : Piece B
  valued = record {
    phrase = valued_phrase;
    read = read_value;
    first = only kind;
    empty = false;
    more = none_of;
    begun = begun_value;
    sound = sound_value;
    complete = complete_value;
  }
