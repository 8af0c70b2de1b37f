-- Pieces of one mark or word that may be left out, and say whether it is there.
use Rattle.std.proofs.Common.{◌≡◌, refl, sym, ◌∙◌, ap, subst, ℕ, ◌+◌, Bool, true, false, List, [], ◌∷◌, ◌++◌, length, Some, ◌⊎◌, inl, inr, add-zero}
use Rattle.std.proofs.lemmas.Option.{some_pair_parts}
use Rattle.ftn_tree.specs.declared.token.Token.{Token}
use Rattle.ftn_tree.specs.declared.lexeme.Lexeme.{Lexeme}
use Rattle.ftn_tree.specs.declared.lexeme.Lexeme.TheVariants.{Word}
use Rattle.ftn_tree.specs.Lexemes.{lexeme_of}
use Rattle.ftn_tree.specs.Phrases.{nothing, word, mark, whether}
use Rattle.expr_parse.specs.steps.Input.{Input, input, after, after_if, eat, eat_word, sees, sees_word, expect_word, taken_if}
use Rattle.expr_parse.proofs.Pieces.{Piece, Took, begins}
use Rattle.expr_parse.proofs.Tokens.{only, is_same, word_piece, word_made, word_kind}
use Rattle.expr_parse.proofs.Lists.{took_mark}
use Rattle.spec_parse.proofs.Seen.{hidden}

took_nothing : (i : Input) → Took nothing i i
took_nothing i = record { tokens = []; rest = refl; at = sym (add-zero i.at); says = refl }

-- ---- marks

module _ (kind : Lexeme) where
  pub begun_flag : (b : Bool) (at : ℕ) (tokens : List Token) → whether b (mark kind) at tokens → (begins (only kind) tokens ≡ true) ⊎ ((tokens ≡ []) × (true ≡ true))
  begun_flag true at tokens (here, split, is) = inl (subst (λ tokens. begins (only kind) tokens ≡ true) (sym split) (is_same (lexeme_of here) kind is))
  begun_flag false at tokens says = inr (says, refl)

  pub sound_flag : (i : Input) (b : Bool) (j : Input) → eat kind i ≡ Some (b, j) → Took (whether b (mark kind)) i j
  sound_flag i b j e =
      let same = some_pair_parts (sees kind i) b (after_if (sees kind i) i) j e in
      subst (λ b. Took (whether b (mark kind)) i j) same.0 (subst (λ j. Took (whether (sees kind i) (mark kind)) i j) same.1 (by (sees kind i) refl)) where
        by : (there : Bool) → sees kind i ≡ there → Took (whether there (mark kind)) i (after_if there i)
        by true there = took_mark kind i there
        by false there = took_nothing i

  pub complete_flag : (b : Bool) (at : ℕ) (tokens rest : List Token) → whether b (mark kind) at tokens → begins (only kind) rest ≡ false
      → eat kind (input at (tokens ++ rest)) ≡ Some (b, input (at + length tokens) rest)
  unfolding sees
  complete_flag true at tokens rest (here, split, is) stops =
      subst (λ tokens. eat kind (input at (tokens ++ rest)) ≡ Some (true, input (at + length tokens) rest)) (sym split)
      (ap (λ there. Some (there, after_if there (input at (here ∷ rest)))) (is_same (lexeme_of here) kind is))
  complete_flag false at tokens rest says stops =
      subst (λ tokens. eat kind (input at (tokens ++ rest)) ≡ Some (false, input (at + length tokens) rest)) (sym says)
      (ap (λ there. Some (there, after_if there (input at rest))) stops ∙ ap (λ place. Some (false, input place rest)) (sym (add-zero at)))

  -- that mark, if it comes next
  abbrev pub flag : Piece Bool
  flag = record {
    phrase = λ b. whether b (mark kind);
    read = eat kind;
    first = only kind;
    empty = true;
    more = only kind;
    begun = begun_flag;
    sound = sound_flag;
    complete = complete_flag;
  }

-- ---- words

module _ (text : List ℕ) where
  pub begun_word : (b : Bool) (at : ℕ) (tokens : List Token) → whether b (word text) at tokens → (begins (only Word) tokens ≡ true) ⊎ ((tokens ≡ []) × (true ≡ true))
  begun_word true at tokens (here, split, is) = inl (subst (λ tokens. begins (only Word) tokens ≡ true) (sym split) (word_kind text here is))
  begun_word false at tokens says = inr (says, refl)

  took_word : (i : Input) → sees_word text i ≡ true → Took (word text) i (after i)
  unfolding expect_word
  took_word i there =
      let took = (word_piece text).sound i i.at (after i) (ap (λ found. taken_if found i) there) in
      record { tokens = took.tokens; rest = took.rest; at = took.at; says = word_made text i.at i.at took.tokens took.says }

  pub sound_word : (i : Input) (b : Bool) (j : Input) → eat_word text i ≡ Some (b, j) → Took (whether b (word text)) i j
  sound_word i b j e =
      let same = some_pair_parts (sees_word text i) b (after_if (sees_word text i) i) j e in
      subst (λ b. Took (whether b (word text)) i j) same.0 (subst (λ j. Took (whether (sees_word text i) (word text)) i j) same.1 (by (sees_word text i) refl)) where
        by : (there : Bool) → sees_word text i ≡ there → Took (whether there (word text)) i (after_if there i)
        by true there = took_word i there
        by false there = took_nothing i

  pub complete_word : (b : Bool) (at : ℕ) (tokens rest : List Token) → whether b (word text) at tokens → begins (only Word) rest ≡ false
      → eat_word text (input at (tokens ++ rest)) ≡ Some (b, input (at + length tokens) rest)
  unfolding sees_word
  complete_word true at tokens rest (here, split, is) stops =
      subst (λ tokens. eat_word text (input at (tokens ++ rest)) ≡ Some (true, input (at + length tokens) rest)) (sym split)
      (ap (λ there. Some (there, after_if there (input at (here ∷ rest)))) is)
  complete_word false at tokens rest says stops =
      subst (λ tokens. eat_word text (input at (tokens ++ rest)) ≡ Some (false, input (at + length tokens) rest)) (sym says)
      (ap (λ there. Some (there, after_if there (input at rest))) (hidden text at rest stops) ∙ ap (λ place. Some (false, input place rest)) (sym (add-zero at)))

  -- that word, if it comes next
  abbrev pub word_flag : Piece Bool
  word_flag = record {
    phrase = λ b. whether b (word text);
    read = eat_word text;
    first = only Word;
    empty = true;
    more = only Word;
    begun = begun_word;
    sound = sound_word;
    complete = complete_word;
  }
