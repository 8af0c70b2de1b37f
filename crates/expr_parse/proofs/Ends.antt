-- Pieces that go to the end of a statement.
use Rattle.std.proofs.Common.{◌≡◌, refl, sym, ◌∙◌, ap, subst, ℕ, ◌+◌, Bool, true, false, List, [], ◌∷◌, ◌++◌, length, Option, Some, None, ◌⊎◌, inl, inr, if◌then◌else◌, add-zero}
use Rattle.std.proofs.lemmas.List.{append-nil}
use Rattle.std.proofs.lemmas.Option.{some_pair_parts}
use Rattle.ftn_tree.specs.declared.token.Token.{Token}
use Rattle.ftn_tree.specs.declared.lexeme.Lexeme.{Lexeme}
use Rattle.ftn_tree.specs.Phrases.{nothing, maybe}
use Rattle.expr_parse.specs.steps.Input.{Input, input, Reader, Outcome, ◌>>◌, pure, is_done, done_at, finish}
use Rattle.expr_parse.specs.steps.Combinators.{◌<$>◌, option_unless_done, to_the_end}
use Rattle.expr_parse.proofs.Pieces.{Piece, Took, begins, bind_some, bind_is}

abbrev pub any : Lexeme → Bool
any kind = true

pub no_rest : (rest : List Token) → begins any rest ≡ false → rest ≡ []
no_rest [] e = refl
no_rest (here ∷ rest) e = absurd (cc e)

abbrev end_if : Bool → Input → Outcome (Unit {0})
end_if a i = if a then Some (tt, i) else None

pub finished : (a b : Bool) (i j : Input) (u : Unit {0}) → a ≡ b → end_if a i ≡ Some (u, j) → (a ≡ true) × (i ≡ j)
finished a true i j u is e = (is, (some_pair_parts {A = Unit {0}} tt u i j (sym (ap (λ a. end_if a i) is) ∙ e)).1)
finished a false i j u is e = absurd (cc (sym (ap (λ a. end_if a i) is) ∙ e))

pub nothing_left : (rest : List Token) → done_at rest ≡ true → rest ≡ []
nothing_left [] e = refl
nothing_left (here ∷ rest) e = absurd (cc e)

module _ {A : Type 0} (piece : Piece A) where
  -- what is read to the end is a phrase of all tokens
  pub whole_sound : (at : ℕ) (tokens : List Token) (a : A) (j : Input) → to_the_end piece.read (input at tokens) ≡ Some (a, j) → piece.phrase a at tokens
  unfolding finish is_done
  whole_sound at tokens a j e =
      let (b, k, read, rest) = bind_some (piece.read (input at tokens)) (λ a. finish >> pure a) a j e in
      let (u, l, done, gives) = bind_some (finish k) (λ u. pure b) a j rest in
      let end = finished (done_at k.rest) (done_at k.rest) k l u refl done in
      let same = some_pair_parts b a l j gives in
      let took = piece.sound (input at tokens) b k read in
      let all = took.rest ∙ ap (λ rest. took.tokens ++ rest) (nothing_left k.rest end.0) ∙ append-nil took.tokens in
      subst (λ a. piece.phrase a at tokens) same.0 (subst (λ tokens. piece.phrase b at tokens) (sym all) took.says)

  none_more : (more : Lexeme → Bool) → begins more [] ≡ false
  none_more more = refl

  -- a phrase of all tokens is read to the end
  pub whole_complete : (at : ℕ) (tokens : List Token) (a : A) → piece.phrase a at tokens → to_the_end piece.read (input at tokens) ≡ Some (a, input (at + length tokens) [])
  unfolding finish is_done
  whole_complete at tokens a says =
      let read = piece.complete a at tokens [] says (none_more piece.more) in
      bind_is (piece.read (input at tokens)) (λ a. finish >> pure a) a (input (at + length tokens) []) (Some (a, input (at + length tokens) []))
      (subst (λ all. piece.read (input at all) ≡ Some (a, input (at + length tokens) [])) (append-nil tokens) read) refl

  module _ (filled : piece.empty ≡ false) where
    pub begun_end : (a : Option A) (at : ℕ) (tokens : List Token) → maybe piece.phrase a at tokens → (begins any tokens ≡ true) ⊎ ((tokens ≡ []) × (true ≡ true))
    begun_end a at [] says = inr (refl, refl)
    begun_end a at (here ∷ tokens) says = inl refl

    choice : Bool → Reader (Option A)
    choice done i = if done then Some (None, i) else (Some <$> piece.read) i

    pub sound_end : (i : Input) (a : Option A) (j : Input) → option_unless_done piece.read i ≡ Some (a, j) → Took (maybe piece.phrase a) i j
    sound_end i a j e = by (is_done i) refl where
      by : (done : Bool) → is_done i ≡ done → Took (maybe piece.phrase a) i j
      by true done =
          let same = some_pair_parts None a i j (sym (ap (λ done. if done then Some (None, i) else (Some <$> piece.read) i) done) ∙ e) in
          subst (λ a. Took (maybe piece.phrase a) i j) same.0 (subst (λ j. Took nothing i j) same.1 (record { tokens = []; rest = refl; at = sym (add-zero i.at); says = refl }))
      by false done =
          let (b, k, read, gives) = bind_some (piece.read i) (λ a. pure (Some a)) a j (sym (ap (λ done. if done then Some (None, i) else (Some <$> piece.read) i) done) ∙ e) in
          let same = some_pair_parts (Some b) a k j gives in
          subst (λ a. Took (maybe piece.phrase a) i j) same.0 (subst (λ j. Took (piece.phrase b) i j) same.1 (piece.sound i b k read))

    filled_tokens : (a : A) (at : ℕ) (tokens : List Token) → piece.phrase a at tokens → done_at tokens ≡ false
    filled_tokens a at [] says = by (piece.begun a at [] says) where
      by : (begins piece.first [] ≡ true) ⊎ ((◌≡◌ {A = List Token} [] []) × (piece.empty ≡ true)) → done_at [] ≡ false
      by (inl e) = absurd (cc e)
      by (inr e) = absurd (cc (filled, e.1))
    filled_tokens a at (here ∷ tokens) says = refl

    pub complete_end : (a : Option A) (at : ℕ) (tokens rest : List Token) → maybe piece.phrase a at tokens → begins any rest ≡ false
        → option_unless_done piece.read (input at (tokens ++ rest)) ≡ Some (a, input (at + length tokens) rest)
    unfolding is_done
    complete_end None at tokens rest says stops = subst (λ tokens. option_unless_done piece.read (input at (tokens ++ rest)) ≡ Some (None, input (at + length tokens) rest)) (sym says)
        (subst (λ rest. option_unless_done piece.read (input at rest) ≡ Some (None, input (at + 0) rest)) (sym (no_rest rest stops)) (ap (λ place. Some (None, input place [])) (sym (add-zero at))))
    complete_end (Some a) at tokens rest says stops =
        let all = no_rest rest stops in
        let read = piece.complete a at tokens [] says (none_more piece.more) in
        let some = bind_is (piece.read (input at (tokens ++ []))) (λ a. pure (Some a)) a (input (at + length tokens) []) (Some (Some a, input (at + length tokens) [])) read refl in
        let there = ap (λ done. if done then Some (None, input at (tokens ++ [])) else (Some <$> piece.read) (input at (tokens ++ []))) (ap done_at (append-nil tokens) ∙ filled_tokens a at tokens says) in
        subst (λ rest. option_unless_done piece.read (input at (tokens ++ rest)) ≡ Some (Some a, input (at + length tokens) rest)) (sym all) (there ∙ some)

    -- a piece that is there unless the statement ends
    abbrev pub unless_done : Piece (Option A)
    unless_done = record {
      phrase = maybe piece.phrase;
      read = option_unless_done piece.read;
      first = any;
      empty = true;
      more = any;
      begun = begun_end;
      sound = sound_end;
      complete = complete_end;
    }
