-- Pieces that choose between two pieces of one kind of value, and pieces with another phrase for the same tokens.
use Rattle.std.proofs.Common.{◌≡◌, refl, sym, ◌∙◌, ap, ℕ, ◌+◌, Bool, true, false, ◌||◌, List, [], ◌++◌, length, Some, ◌⊎◌, inl, inr, if◌then◌else◌}
use Rattle.std.proofs.lemmas.Bool.{or_left, or_right}
use Rattle.ftn_tree.specs.declared.token.Token.{Token}
use Rattle.ftn_tree.specs.declared.lexeme.Lexeme.{Lexeme}
use Rattle.ftn_tree.specs.Phrases.{Phrase}
use Rattle.expr_parse.specs.steps.Input.{Input, input}
use Rattle.expr_parse.proofs.Pieces.{Piece, Took, begins, begins_or, begins_left, begins_right}
use Rattle.spec_parse.specs.steps.Choices.{choose}

module _ {A : Type 0} (piece : Piece A) (phrase : A → Phrase)
    (made : (a : A) (at : ℕ) (tokens : List Token) → piece.phrase a at tokens → phrase a at tokens)
    (back : (a : A) (at : ℕ) (tokens : List Token) → phrase a at tokens → piece.phrase a at tokens) where
  pub begun_rephrased : (a : A) (at : ℕ) (tokens : List Token) → phrase a at tokens → (begins piece.first tokens ≡ true) ⊎ ((tokens ≡ []) × (piece.empty ≡ true))
  begun_rephrased a at tokens says = piece.begun a at tokens (back a at tokens says)

  pub sound_rephrased : (i : Input) (a : A) (j : Input) → piece.read i ≡ Some (a, j) → Took (phrase a) i j
  sound_rephrased i a j e = let took = piece.sound i a j e in record { tokens = took.tokens; rest = took.rest; at = took.at; says = made a i.at took.tokens took.says }

  pub complete_rephrased : (a : A) (at : ℕ) (tokens rest : List Token) → phrase a at tokens → begins piece.more rest ≡ false → piece.read (input at (tokens ++ rest)) ≡ Some (a, input (at + length tokens) rest)
  complete_rephrased a at tokens rest says stops = piece.complete a at tokens rest (back a at tokens says) stops

  -- the same reader, its phrase said otherwise
  abbrev pub rephrased : Piece A
  rephrased = record {
    phrase = phrase;
    read = piece.read;
    first = piece.first;
    empty = piece.empty;
    more = piece.more;
    begun = begun_rephrased;
    sound = sound_rephrased;
    complete = complete_rephrased;
  }

module _ {A : Type 0} (test : Input → Bool) (one other : Piece A) (extra : Lexeme → Bool)
    (is_one : (a : A) (at : ℕ) (tokens rest : List Token) → one.phrase a at tokens → begins one.more rest ≡ false → test (input at (tokens ++ rest)) ≡ true)
    (is_other : (a : A) (at : ℕ) (tokens rest : List Token) → other.phrase a at tokens → begins other.more rest ≡ false → begins extra rest ≡ false → test (input at (tokens ++ rest)) ≡ false) where
  abbrev pub either_phrase : A → Phrase
  either_phrase a at tokens = one.phrase a at tokens ⊎ other.phrase a at tokens

  pub begun_either : (a : A) (at : ℕ) (tokens : List Token) → either_phrase a at tokens → (begins (λ kind. one.first kind || other.first kind) tokens ≡ true) ⊎ ((tokens ≡ []) × ((one.empty || other.empty) ≡ true))
  begun_either a at tokens (inl says) = by (one.begun a at tokens says) where
    by : (begins one.first tokens ≡ true) ⊎ ((tokens ≡ []) × (one.empty ≡ true)) → (begins (λ kind. one.first kind || other.first kind) tokens ≡ true) ⊎ ((tokens ≡ []) × ((one.empty || other.empty) ≡ true))
    by (inl e) = inl (begins_left one.first other.first tokens e)
    by (inr e) = inr (e.0, or_left one.empty other.empty e.1)
  begun_either a at tokens (inr says) = by (other.begun a at tokens says) where
    by : (begins other.first tokens ≡ true) ⊎ ((tokens ≡ []) × (other.empty ≡ true)) → (begins (λ kind. one.first kind || other.first kind) tokens ≡ true) ⊎ ((tokens ≡ []) × ((one.empty || other.empty) ≡ true))
    by (inl e) = inl (begins_right one.first other.first tokens e)
    by (inr e) = inr (e.0, or_right one.empty other.empty e.1)

  pub sound_either : (i : Input) (a : A) (j : Input) → choose test one.read other.read i ≡ Some (a, j) → Took (either_phrase a) i j
  sound_either i a j e = by (test i) refl where
    by : (first : Bool) → test i ≡ first → Took (either_phrase a) i j
    by true is =
        let took = one.sound i a j (sym (ap (λ first. if first then one.read i else other.read i) is) ∙ e) in
        record { tokens = took.tokens; rest = took.rest; at = took.at; says = inl took.says }
    by false is =
        let took = other.sound i a j (sym (ap (λ first. if first then one.read i else other.read i) is) ∙ e) in
        record { tokens = took.tokens; rest = took.rest; at = took.at; says = inr took.says }

  pub complete_either : (a : A) (at : ℕ) (tokens rest : List Token) → either_phrase a at tokens → begins (λ kind. one.more kind || (other.more kind || extra kind)) rest ≡ false
      → choose test one.read other.read (input at (tokens ++ rest)) ≡ Some (a, input (at + length tokens) rest)
  complete_either a at tokens rest (inl says) stops =
      let stop = begins_or one.more (λ kind. other.more kind || extra kind) rest stops in
      ap (λ first. if first then one.read (input at (tokens ++ rest)) else other.read (input at (tokens ++ rest))) (is_one a at tokens rest says stop.0)
      ∙ one.complete a at tokens rest says stop.0
  complete_either a at tokens rest (inr says) stops =
      let stop = begins_or other.more extra rest (begins_or one.more (λ kind. other.more kind || extra kind) rest stops).1 in
      ap (λ first. if first then one.read (input at (tokens ++ rest)) else other.read (input at (tokens ++ rest))) (is_other a at tokens rest says stop.0 stop.1)
      ∙ other.complete a at tokens rest says stop.0

  -- the one where the test holds, and else the other
  abbrev pub either : Piece A
  either = record {
    phrase = either_phrase;
    read = choose test one.read other.read;
    first = λ kind. one.first kind || other.first kind;
    empty = one.empty || other.empty;
    more = λ kind. one.more kind || (other.more kind || extra kind);
    begun = begun_either;
    sound = sound_either;
    complete = complete_either;
  }
