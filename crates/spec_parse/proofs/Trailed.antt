-- Pieces that a word follows where that holds of what is read.
use Rattle.std.proofs.Common.{◌≡◌, refl, sym, ◌∙◌, ap, subst, ℕ, ◌+◌, Bool, true, false, List, [], ◌∷◌, ◌++◌, length, Some, append_assoc, ◌⊎◌, inl, inr, if◌then◌else◌, add-zero}
use Rattle.std.proofs.lemmas.Option.{some_pair_parts}
use Rattle.ftn_tree.specs.declared.token.Token.{Token}
use Rattle.ftn_tree.specs.declared.lexeme.Lexeme.{Lexeme}
use Rattle.ftn_tree.specs.declared.lexeme.Lexeme.TheVariants.{Word}
use Rattle.ftn_tree.specs.Lexemes.{lexeme_of}
use Rattle.ftn_tree.specs.Phrases.{Phrase, nothing, ◌·◌, word, whether}
use Rattle.expr_parse.specs.steps.Input.{Input, input, Reader, ◌>>◌, pure, expect_word}
use Rattle.expr_parse.proofs.Pieces.{Piece, Took, Apart, begins, begins_after, bind_some, bind_is, took_both}
use Rattle.expr_parse.proofs.Tokens.{only, none_of, word_piece, word_made, word_back, word_kind}
use Rattle.spec_parse.specs.steps.Choices.{trailed}
use Rattle.ftn_tree.proofs.PhraseLaws.{placed}

none_begins : (tokens : List Token) → begins none_of tokens ≡ false
none_begins [] = refl
none_begins (here ∷ rest) = refl

word_begins : (text : List ℕ) (more : Lexeme → Bool) (at : ℕ) (tokens rest : List Token) → Apart (only Word) more → word text at tokens → begins more (tokens ++ rest) ≡ false
word_begins text more at tokens rest apart (here, split, is) = subst (λ tokens. begins more (tokens ++ rest) ≡ false) (sym split) (apart (lexeme_of here) (word_kind text here is))

module _ {A : Type 0} (test : A → Bool) (text : List ℕ) (piece : Piece A) (filled : piece.empty ≡ false) (apart : Apart (only Word) piece.more) where
  abbrev pub trailed_phrase : A → Phrase
  trailed_phrase a = piece.phrase a · whether (test a) (word text)

  pub begun_trailed : (a : A) (at : ℕ) (tokens : List Token) → trailed_phrase a at tokens → (begins piece.first tokens ≡ true) ⊎ ((tokens ≡ []) × (false ≡ true))
  begun_trailed a at tokens (before, after, split, says, says_word) = by (piece.begun a at before says) where
    by : (begins piece.first before ≡ true) ⊎ ((before ≡ []) × (piece.empty ≡ true)) → (begins piece.first tokens ≡ true) ⊎ ((tokens ≡ []) × (false ≡ true))
    by (inl e) = inl (subst (λ tokens. begins piece.first tokens ≡ true) (sym split) (begins_after piece.first before after e))
    by (inr none) = absurd (cc (filled, none.1))

  abbrev next : A → Reader A
  next a = if test a then (expect_word text >> pure a) else pure a

  abbrev next_by : Bool → A → Reader A
  next_by holds a = if holds then (expect_word text >> pure a) else pure a

  then_sound : (a b : A) (i k j : Input) → Took (piece.phrase a) i k → (holds : Bool) → test a ≡ holds → next_by holds a k ≡ Some (b, j) → Took (trailed_phrase b) i j
  then_sound a b i k j took true is e =
      let (n, l, read, gives) = bind_some (expect_word text k) (λ n. pure a) b j e in
      let same = some_pair_parts a b l j gives in
      let last = (word_piece text).sound k n l read in
      let word_took : Took (word text) k l = record { tokens = last.tokens; rest = last.rest; at = last.at; says = word_made text n k.at last.tokens last.says } in
      let both = took_both (piece.phrase a) (word text) i k l took word_took in
      let all : Took (trailed_phrase a) i l = subst (λ holds. Took (piece.phrase a · whether holds (word text)) i l) (sym is) both in
      subst (λ b. Took (trailed_phrase b) i j) same.0 (subst (λ j. Took (trailed_phrase a) i j) same.1 all)
  then_sound a b i k j took false is e =
      let same = some_pair_parts a b k j e in
      let both = took_both (piece.phrase a) nothing i k k took (record { tokens = []; rest = refl; at = sym (add-zero k.at); says = refl }) in
      let all : Took (trailed_phrase a) i k = subst (λ holds. Took (piece.phrase a · whether holds (word text)) i k) (sym is) both in
      subst (λ b. Took (trailed_phrase b) i j) same.0 (subst (λ j. Took (trailed_phrase a) i j) same.1 all)

  pub sound_trailed : (i : Input) (a : A) (j : Input) → trailed test text piece.read i ≡ Some (a, j) → Took (trailed_phrase a) i j
  sound_trailed i a j e =
      let (b, k, read, gives) = bind_some (piece.read i) next a j e in
      then_sound b a i k j (piece.sound i b k read) (test b) refl gives

  then_complete : (a : A) (at : ℕ) (before after rest : List Token) → piece.phrase a at before → (holds : Bool) → test a ≡ holds → whether holds (word text) (at + length before) after → begins piece.more rest ≡ false
      → trailed test text piece.read (input at (before ++ (after ++ rest))) ≡ Some (a, input ((at + length before) + length after) rest)
  then_complete a at before after rest says true is says_word stops =
      let end = input ((at + length before) + length after) rest in
      let middle = input (at + length before) (after ++ rest) in
      let (n, says_n) = word_back text (at + length before) after says_word in
      let last = (word_piece text).complete n (at + length before) after rest says_n (none_begins rest) in
      bind_is (piece.read (input at (before ++ (after ++ rest)))) next a middle (Some (a, end))
      (piece.complete a at before (after ++ rest) says (word_begins text piece.more (at + length before) after rest apart says_word))
      (ap (λ holds. next_by holds a middle) is ∙ bind_is (expect_word text middle) (λ n. pure a) n end (Some (a, end)) last refl)
  then_complete a at before after rest says false is none stops =
      let place = at + length before in
      subst (λ after. trailed test text piece.read (input at (before ++ (after ++ rest))) ≡ Some (a, input (place + length after) rest)) (sym none)
      (bind_is (piece.read (input at (before ++ rest))) next a (input place rest) (Some (a, input (place + 0) rest))
      (piece.complete a at before rest says stops)
      (ap (λ holds. next_by holds a (input place rest)) is ∙ ap (λ place. Some (a, input place rest)) (sym (add-zero place))))

  pub complete_trailed : (a : A) (at : ℕ) (tokens rest : List Token) → trailed_phrase a at tokens → begins piece.more rest ≡ false
      → trailed test text piece.read (input at (tokens ++ rest)) ≡ Some (a, input (at + length tokens) rest)
  complete_trailed a at tokens rest (before, after, split, says, says_word) stops =
      let read = then_complete a at before after rest says (test a) refl says_word stops in
      let joined = subst (λ tokens. trailed test text piece.read (input at tokens) ≡ Some (a, input ((at + length before) + length after) rest)) (sym (append_assoc before after rest)) read in
      let placed_at = subst (λ place. trailed test text piece.read (input at ((before ++ after) ++ rest)) ≡ Some (a, input place rest)) (placed at before after) joined in
      subst (λ tokens. trailed test text piece.read (input at (tokens ++ rest)) ≡ Some (a, input (at + length tokens) rest)) (sym split) placed_at

  abbrev pub trailed_piece : Piece A
  trailed_piece = record {
    phrase = trailed_phrase;
    read = trailed test text piece.read;
    first = piece.first;
    empty = false;
    more = piece.more;
    begun = begun_trailed;
    sound = sound_trailed;
    complete = complete_trailed;
  }
