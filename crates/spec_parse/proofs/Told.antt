-- Pieces of one token that is read for a value by itself.
use Rattle.std.proofs.Common.{◌≡◌, refl, sym, ap, subst, ℕ, ◌+◌, Bool, true, false, List, [], ◌∷◌, ◌++◌, length, Option, Some, None, ◌⊎◌, inl}
use Rattle.ftn_tree.specs.declared.token.Token.{Token}
use Rattle.ftn_tree.specs.declared.lexeme.Lexeme.{Lexeme}
use Rattle.ftn_tree.specs.Lexemes.{lexeme_of}
use Rattle.ftn_tree.specs.Phrases.{Phrase, token}
use Rattle.expr_parse.specs.steps.Input.{Input, input, Reader, after}
use Rattle.expr_parse.specs.steps.Reading.{take_one}
use Rattle.expr_parse.proofs.Pieces.{Piece, Took, begins}
use Rattle.expr_parse.proofs.Takes.{token_took, given}
use Rattle.expr_parse.proofs.Tokens.{none_of}

-- what the token of a number stands for, and the kinds of those that stand for something
module _ {A : Type 0} (value : ℕ → Token → Option A) (first : Lexeme → Bool) (has_kind : (at : ℕ) (here : Token) (a : A) → value at here ≡ Some a → first (lexeme_of here) ≡ true) where
  abbrev pub told_phrase : A → Phrase
  told_phrase a = token (λ at here. value at here ≡ Some a)

  abbrev pub told_in : List Token → Reader A
  told_in [] i = None
  told_in (here ∷ rest) i = take_one (value i.at here) i

  abbrev pub read_told : Reader A
  read_told i = told_in i.rest i

  pub begun_told : (a : A) (at : ℕ) (tokens : List Token) → told_phrase a at tokens → (begins first tokens ≡ true) ⊎ ((tokens ≡ []) × (false ≡ true))
  begun_told a at tokens (here, split, is) = inl (subst (λ tokens. begins first tokens ≡ true) (sym split) (has_kind at here a is))

  by_value : (i : Input) (here : Token) (rest : List Token) (a : A) (j : Input) → i.rest ≡ here ∷ rest → (found : Option A) → value i.at here ≡ found → take_one found i ≡ Some (a, j) → Took (told_phrase a) i j
  by_value i here rest a j row None is e = absurd (cc e)
  by_value i here rest a j row (Some b) is e = given told_phrase b a i (after i) j e (token_took (λ at here. value at here ≡ Some b) i here rest row is)

  pub sound_told : (i : Input) (a : A) (j : Input) → read_told i ≡ Some (a, j) → Took (told_phrase a) i j
  sound_told i a j e = by i.rest refl e where
    by : (row : List Token) → i.rest ≡ row → told_in row i ≡ Some (a, j) → Took (told_phrase a) i j
    by [] is e = absurd (cc e)
    by (here ∷ rest) is e = by_value i here rest a j is (value i.at here) refl e

  pub complete_told : (a : A) (at : ℕ) (tokens rest : List Token) → told_phrase a at tokens → begins none_of rest ≡ false → read_told (input at (tokens ++ rest)) ≡ Some (a, input (at + length tokens) rest)
  complete_told a at tokens rest (here, split, is) stops =
      subst (λ tokens. read_told (input at (tokens ++ rest)) ≡ Some (a, input (at + length tokens) rest)) (sym split)
      (ap (λ found. take_one found (input at (here ∷ rest))) is)

  abbrev pub told : Piece A
  told = record {
    phrase = told_phrase;
    read = read_told;
    first = first;
    empty = false;
    more = none_of;
    begun = begun_told;
    sound = sound_told;
    complete = complete_told;
  }
