-- Pieces of lists in parentheses that may be empty.
use Rattle.std.proofs.Common.{◌≡◌, refl, sym, ◌∙◌, ap, subst, ℕ, ◌+◌, Bool, true, false, ◌||◌, ◌&&◌, List, [], ◌∷◌, ◌++◌, length, Some, ◌⊎◌, inl, inr, if◌then◌else◌, add-zero}
use Rattle.std.proofs.lemmas.Bool.{or_right, or_left}
use Rattle.std.proofs.lemmas.Option.{some_pair_parts}
use Rattle.ftn_tree.specs.declared.token.Token.{Token}
use Rattle.ftn_tree.specs.declared.lexeme.Lexeme.TheVariants.{Comma, Open, Close}
use Rattle.ftn_tree.specs.Lexemes.{lexeme_of}
use Rattle.ftn_tree.specs.Phrases.{Phrase, ◌·◌, mark, commas_or_none}
use Rattle.expr_parse.specs.steps.Input.{Input, input, Reader, ◌>>=◌, ◌>>◌, pure, after, after_if, sees, expect}
use Rattle.expr_parse.specs.steps.Combinators.{separated, rest_of_list}
use Rattle.expr_parse.proofs.Pieces.{Piece, Took, Apart, begins}
use Rattle.expr_parse.proofs.Tokens.{only, before_mark, after_mark, is_same}
use Rattle.expr_parse.proofs.Lists.{took_mark, list, list_more}

module _ {A : Type 0} (piece : Piece A) (filled : piece.empty ≡ false) (apart : Apart (only Comma) piece.more)
    (no_close : Apart piece.first (only Close)) (closed : Apart (only Close) (list_more piece filled apart)) where
  abbrev items : Piece (List A)
  items = before_mark (list piece filled apart) Close closed

  abbrev pub rest_phrase : List A → Phrase
  rest_phrase all = commas_or_none piece.phrase all · mark Close

  abbrev choice : Bool → Reader (List A)
  choice none = if none then pure [] else (separated piece.read >>= (λ all. expect Close >> pure all))

  rest_of_items : (all : List A) (at : ℕ) (tokens : List Token) → items.phrase all at tokens → rest_phrase all at tokens
  rest_of_items [] at tokens (before, after, split, says, close) = absurd says
  rest_of_items (a ∷ more) at tokens says = says

  pub sound_rest : (i : Input) (all : List A) (j : Input) → rest_of_list piece.read i ≡ Some (all, j) → Took (rest_phrase all) i j
  sound_rest i all j e = by (sees Close i) refl where
    by : (none : Bool) → sees Close i ≡ none → Took (rest_phrase all) i j
    by true none =
        let same = some_pair_parts [] all (after i) j (sym (ap (λ none. choice none (after_if none i)) none) ∙ e) in
        let took = took_mark Close i none in
        subst (λ all. Took (rest_phrase all) i j) same.0 (subst (λ j. Took (rest_phrase []) i j) same.1
        (record { tokens = took.tokens; rest = took.rest; at = took.at; says = ([], took.tokens, refl, refl, subst (λ at. mark Close at took.tokens) (sym (add-zero i.at)) took.says) }))
    by false none =
        let took = items.sound i all j (sym (ap (λ none. choice none (after_if none i)) none) ∙ e) in
        record { tokens = took.tokens; rest = took.rest; at = took.at; says = rest_of_items all i.at took.tokens took.says }

  strip : (here : Token) (a : Bool) → (a || (false && only Close (lexeme_of here))) ≡ true → a ≡ true
  strip here true e = refl
  strip here false e = e

  pub begun_rest : (all : List A) (at : ℕ) (tokens : List Token) → rest_phrase all at tokens → (begins (λ kind. piece.first kind || only Close kind) tokens ≡ true) ⊎ ((tokens ≡ []) × (false ≡ true))
  begun_rest [] at tokens (before, after, split, none, (close, is_one, is_close)) =
      inl (subst (λ tokens. begins (λ kind. piece.first kind || only Close kind) tokens ≡ true) (sym (split ∙ ap (λ before. before ++ after) none ∙ is_one))
      (or_right (piece.first (lexeme_of close)) (only Close (lexeme_of close)) (is_same (lexeme_of close) Close is_close)))
  begun_rest (a ∷ more) at tokens says = by tokens (items.begun (a ∷ more) at tokens says) where
    by : (tokens : List Token) → (begins items.first tokens ≡ true) ⊎ ((tokens ≡ []) × (items.empty ≡ true)) → (begins (λ kind. piece.first kind || only Close kind) tokens ≡ true) ⊎ ((tokens ≡ []) × (false ≡ true))
    by [] (inl e) = absurd (cc e)
    by (here ∷ rest) (inl e) = inl (or_left (piece.first (lexeme_of here)) (only Close (lexeme_of here)) (strip here (piece.first (lexeme_of here)) e))
    by tokens (inr e) = absurd (cc e.1)

  pub complete_rest : (all : List A) (at : ℕ) (tokens rest : List Token) → rest_phrase all at tokens → begins (λ kind. false) rest ≡ false
      → rest_of_list piece.read (input at (tokens ++ rest)) ≡ Some (all, input (at + length tokens) rest)
  unfolding sees
  complete_rest [] at tokens rest (before, after, split, none, (close, is_one, is_close)) stops =
      let whole = split ∙ ap (λ before. before ++ after) none ∙ is_one in
      subst (λ tokens. rest_of_list piece.read (input at (tokens ++ rest)) ≡ Some ([], input (at + length tokens) rest)) (sym whole)
      (ap (λ none. choice none (after_if none (input at (close ∷ rest)))) (is_same (lexeme_of close) Close is_close))
  complete_rest (a ∷ more) at tokens rest says stops = by tokens refl (items.begun (a ∷ more) at tokens says) where
    read_all : items.read (input at (tokens ++ rest)) ≡ Some (a ∷ more, input (at + length tokens) rest)
    read_all = items.complete (a ∷ more) at tokens rest says (no_stop rest) where
      no_stop : (rest : List Token) → begins items.more rest ≡ false
      no_stop [] = refl
      no_stop (here ∷ rest) = refl

    first_of : (here : Token) (tokens : List Token) → begins items.first (here ∷ tokens) ≡ true → only Close (lexeme_of here) ≡ false
    first_of here tokens e = no_close (lexeme_of here) (strip here (piece.first (lexeme_of here)) e)

    by : (these : List Token) → these ≡ tokens → (begins items.first these ≡ true) ⊎ ((these ≡ []) × (items.empty ≡ true)) → rest_of_list piece.read (input at (tokens ++ rest)) ≡ Some (a ∷ more, input (at + length tokens) rest)
    by [] is (inl e) = absurd (cc e)
    by (here ∷ these) is (inl e) = ap (λ none. choice none (after_if none (input at (tokens ++ rest))))
        (sym (ap (λ tokens. sees Close (input at (tokens ++ rest))) is) ∙ first_of here these e) ∙ read_all
    by these is (inr e) = absurd (cc e.1)

  abbrev pub rest_piece : Piece (List A)
  rest_piece = record {
    phrase = rest_phrase;
    read = rest_of_list piece.read;
    first = λ kind. piece.first kind || only Close kind;
    empty = false;
    more = λ kind. false;
    begun = begun_rest;
    sound = sound_rest;
    complete = complete_rest;
  }

  -- none or more, with commas between them, in parentheses
  abbrev pub parenthesized_list : Piece (List A)
  parenthesized_list = after_mark Open rest_piece
