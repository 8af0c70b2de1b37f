-- Pieces of lists with commas.
use Rattle.std.proofs.Common.{◌≡◌, refl, sym, ◌∙◌, ap, subst, arith, ℕ, zero, suc, ◌+◌, ◌≤◌, Bool, true, false, ◌||◌, List, [], ◌∷◌, ◌++◌, length, Some, append_assoc, ◌⊎◌, inl, inr, if◌then◌else◌}
use Rattle.std.proofs.lemmas.Grind.{common_steps}
use Rattle.std.proofs.lemmas.List.{append-nil}
use Rattle.std.proofs.lemmas.Option.{some_pair_parts}
use Rattle.ftn_tree.specs.declared.token.Token.{Token}
use Rattle.ftn_tree.specs.declared.lexeme.Lexeme.{Lexeme}
use Rattle.ftn_tree.specs.declared.lexeme.Lexeme.TheVariants.{Comma}
use Rattle.ftn_tree.specs.Lexemes.{lexeme_of}
use Rattle.ftn_tree.specs.Phrases.{Phrase, nothing, ◌·◌, mark, commas, after_commas}
use Rattle.expr_parse.specs.steps.Input.{Input, input, Reader, ◌>>=◌, pure, taken_if, after, after_if, sees, expect, eat}
use Rattle.expr_parse.specs.steps.Combinators.{separated, separated_from}
use Rattle.expr_parse.proofs.Pieces.{Piece, Took, Apart, begins, begins_or, begins_after, bind_some, bind_is, took_both}
use Rattle.expr_parse.proofs.Tokens.{only, mark_piece, bare_made, is_same}
use Rattle.expr_parse.proofs.TokenRows.{regrouped, none_left, enough, grown, too_few, after_comma, fewer_later}

-- a mark that is seen is taken
pub took_mark : (kind : Lexeme) (i : Input) → sees kind i ≡ true → Took (mark kind) i (after i)
unfolding expect
took_mark kind i e =
    let took = (mark_piece kind).sound i i.at (after i) (ap (λ found. taken_if found i) e) in
    record { tokens = took.tokens; rest = took.rest; at = took.at; says = bare_made kind i.at i.at took.tokens took.says }

pub took_alone : (phrase : Phrase) (i j : Input) → Took phrase i j → Took (phrase · nothing) i j
took_alone phrase i j took = record { tokens = took.tokens; rest = took.rest; at = took.at; says = (took.tokens, [], sym (append-nil took.tokens), took.says, refl) }

module _ {A : Type 0} (piece : Piece A) (filled : piece.empty ≡ false) (apart : Apart (only Comma) piece.more) where
  abbrev pub list_more : Lexeme → Bool
  list_more kind = piece.more kind || only Comma kind

  abbrev turn : ℕ → List A → A → Reader (List A)
  turn n found a = eat Comma >>= (λ again. if again then separated_from piece.read n (found ++ a ∷ []) else pure (found ++ a ∷ []))

  -- what was found before, and the items that were taken
  record Found (found all : List A) (i j : Input) : Type 0 where
    first : A
    rest : List A
    is : all ≡ found ++ first ∷ rest
    took : Took (piece.phrase first · after_commas piece.phrase rest) i j

  sound_from : (n : ℕ) (found all : List A) (i j : Input) → separated_from piece.read n found i ≡ Some (all, j) → Found found all i j
  unfolding separated_from
  sound_from zero found all i j e = absurd (cc e)
  sound_from (suc n) found all i j e = by_item (λ found k. sound_from n found all k j) (bind_some (piece.read i) (turn n found) all j e) where
    by_item : ((found : List A) (k : Input) → separated_from piece.read n found k ≡ Some (all, j) → Found found all k j) → (a : A) × (k : Input) × (piece.read i ≡ Some (a, k)) × (turn n found a k ≡ Some (all, j)) → Found found all i j
    by_item onward (a, k, read, next) = by (sees Comma k) refl where
      by : (there : Bool) → sees Comma k ≡ there → Found found all i j
      by true there =
          let later = onward (found ++ a ∷ []) (after k) (sym (ap (λ there. (if there then separated_from piece.read n (found ++ a ∷ []) else pure (found ++ a ∷ [])) (after_if there k)) there) ∙ next) in
          record {
            first = a;
            rest = later.first ∷ later.rest;
            is = later.is ∙ regrouped found a later.first later.rest;
            took = took_both (piece.phrase a) (mark Comma · piece.phrase later.first · after_commas piece.phrase later.rest) i k j (piece.sound i a k read)
                (took_both (mark Comma) (piece.phrase later.first · after_commas piece.phrase later.rest) k (after k) j (took_mark Comma k there) later.took);
          }
      by false there =
          let same = some_pair_parts (found ++ a ∷ []) all k j (sym (ap (λ there. (if there then separated_from piece.read n (found ++ a ∷ []) else pure (found ++ a ∷ [])) (after_if there k)) there) ∙ next) in
          record {
            first = a;
            rest = [];
            is = sym same.0;
            took = subst (λ j. Took (piece.phrase a · nothing) i j) same.1 (took_alone (piece.phrase a) i k (piece.sound i a k read));
          }

  list_taken : (all first_rest : List A) (first : A) (i j : Input) → all ≡ first ∷ first_rest → Took (piece.phrase first · after_commas piece.phrase first_rest) i j → Took (commas piece.phrase all) i j
  list_taken all first_rest first i j is took = subst (λ all. Took (commas piece.phrase all) i j) (sym is)
      (record { tokens = took.tokens; rest = took.rest; at = took.at; says = took.says })

  pub sound_list : (i : Input) (all : List A) (j : Input) → separated piece.read i ≡ Some (all, j) → Took (commas piece.phrase all) i j
  sound_list i all j e = let found = sound_from (length i.rest) [] all i j e in list_taken all found.rest found.first i j found.is found.took

  nonempty : (a : A) (at : ℕ) (tokens : List Token) → piece.phrase a at tokens → 1 ≤ length tokens
  nonempty a at tokens says = by tokens (piece.begun a at tokens says) where
    by : (tokens : List Token) → (begins piece.first tokens ≡ true) ⊎ ((tokens ≡ []) × (piece.empty ≡ true)) → 1 ≤ length tokens
    by [] (inl e) = absurd (cc e)
    by (here ∷ tokens) (inl e) = grind (arith, common_steps)
    by tokens (inr none) = absurd (cc (filled, none.1))

  pub begun_list : (all : List A) (at : ℕ) (tokens : List Token) → commas piece.phrase all at tokens → (begins piece.first tokens ≡ true) ⊎ ((tokens ≡ []) × (false ≡ true))
  begun_list [] at tokens says = absurd says
  begun_list (a ∷ rest) at tokens (before, after, split, says, says_rest) = by (piece.begun a at before says) where
    by : (begins piece.first before ≡ true) ⊎ ((before ≡ []) × (piece.empty ≡ true)) → (begins piece.first tokens ≡ true) ⊎ ((tokens ≡ []) × (false ≡ true))
    by (inl e) = inl (subst (λ tokens. begins piece.first tokens ≡ true) (sym split) (begins_after piece.first before after e))
    by (inr none) = absurd (cc (filled, none.1))

  abbrev Reads : ℕ → List A → List A → ℕ → List Token → List Token → Type 0
  Reads n found items at tokens rest = separated_from piece.read n found (input at (tokens ++ rest)) ≡ Some (found ++ items, input (at + length tokens) rest)

  -- the last item
  complete_last : (n : ℕ) (found : List A) (a : A) (at : ℕ) (tokens rest : List Token) → piece.phrase a at tokens → begins list_more rest ≡ false → Reads (suc n) found (a ∷ []) at tokens rest
  unfolding separated_from sees
  complete_last n found a at tokens rest says stops =
      let stop = begins_or piece.more (only Comma) rest stops in
      bind_is (piece.read (input at (tokens ++ rest))) (turn n found) a (input (at + length tokens) rest) (Some (found ++ a ∷ [], input (at + length tokens) rest))
      (piece.complete a at tokens rest says stop.0)
      (ap (λ there. (if there then separated_from piece.read n (found ++ a ∷ []) else pure (found ++ a ∷ [])) (after_if there (input (at + length tokens) rest))) stop.1)

  -- an item, its comma, and those after it
  complete_next : (n : ℕ) (found : List A) (a b : A) (more : List A) (at : ℕ) (before later rest : List Token) (comma : Token) → piece.phrase a at before → lexeme_of comma ≡ Comma
      → Reads n (found ++ a ∷ []) (b ∷ more) ((at + length before) + 1) later rest → Reads (suc n) found (a ∷ b ∷ more) at (before ++ comma ∷ later) rest
  unfolding separated_from sees
  complete_next n found a b more at before later rest comma says is onward =
      let place = input (at + length before) (comma ∷ (later ++ rest)) in
      let there = is_same (lexeme_of comma) Comma is in
      let stop = apart (lexeme_of comma) there in
      let again = ap (λ there. (if there then separated_from piece.read n (found ++ a ∷ []) else pure (found ++ a ∷ [])) (after_if there place)) there in
      let answer = Some ((found ++ a ∷ []) ++ b ∷ more, input (((at + length before) + 1) + length later) rest) in
      let item = bind_is (piece.read (input at (before ++ (comma ∷ (later ++ rest))))) (turn n found) a place answer (piece.complete a at before (comma ∷ (later ++ rest)) says stop) (again ∙ onward) in
      let joined = subst (λ tokens. separated_from piece.read (suc n) found (input at tokens) ≡ answer) (sym (append_assoc before (comma ∷ later) rest)) item in
      joined ∙ ap (λ all. Some (all, input (((at + length before) + 1) + length later) rest)) (regrouped found a b more)
      ∙ ap (λ place. Some (found ++ a ∷ b ∷ more, input place rest)) (after_comma at before later comma)

  complete_from : (items : List A) (n : ℕ) (found : List A) (a : A) (at : ℕ) (tokens rest : List Token) → (piece.phrase a · after_commas piece.phrase items) at tokens
      → length tokens ≤ n → begins list_more rest ≡ false → Reads n found (a ∷ items) at tokens rest
  complete_from items zero found a at tokens rest (before, after, split, says, says_rest) small stops =
      absurd (too_few tokens (grown tokens before after split (nonempty a at before says)) small)
  complete_from [] (suc n) found a at tokens rest (before, after, split, says, none) small stops =
      complete_last n found a at tokens rest (subst (λ tokens. piece.phrase a at tokens) (none_left tokens before (split ∙ ap (λ after. before ++ after) none)) says) stops
  complete_from (b ∷ more) (suc n) found a at tokens rest (before, after, split, says, (commas_tokens, later, split_after, (comma, is_one, is_comma), says_later)) small stops =
      let whole = split ∙ ap (λ after. before ++ after) (split_after ∙ ap (λ one. one ++ later) is_one) in
      let place = ap (λ one. (at + length before) + length one) is_one in
      let says_b = subst (λ place. (piece.phrase b · after_commas piece.phrase more) place later) place says_later in
      let onward = complete_from more n (found ++ a ∷ []) b ((at + length before) + 1) later rest says_b (fewer_later n before later comma (subst (λ tokens. length tokens ≤ suc n) whole small)) stops in
      subst (λ tokens. Reads (suc n) found (a ∷ b ∷ more) at tokens rest) (sym whole) (complete_next n found a b more at before later rest comma says is_comma onward)

  pub complete_list : (all : List A) (at : ℕ) (tokens rest : List Token) → commas piece.phrase all at tokens → begins list_more rest ≡ false
      → separated piece.read (input at (tokens ++ rest)) ≡ Some (all, input (at + length tokens) rest)
  complete_list [] at tokens rest says stops = absurd says
  complete_list (a ∷ items) at tokens rest says stops = complete_from items (length (tokens ++ rest)) [] a at tokens rest says (enough tokens rest) stops

  -- one or more, with commas between them
  abbrev pub list : Piece (List A)
  list = record {
    phrase = commas piece.phrase;
    read = separated piece.read;
    first = piece.first;
    empty = false;
    more = list_more;
    begun = begun_list;
    sound = sound_list;
    complete = complete_list;
  }
