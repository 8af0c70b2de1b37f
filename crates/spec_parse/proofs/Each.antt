-- A piece and then others of one kind, to the end of the statement.
use Rattle.std.proofs.Common.{◌≡◌, refl, sym, ◌∙◌, ap, subst, arith, ℕ, zero, suc, ◌+◌, ◌≤◌, Bool, true, false, List, [], ◌∷◌, ◌++◌, length, Option, Some, append_assoc, ◌⊎◌, inl, inr, if◌then◌else◌, add-zero, le_refl}
use Rattle.std.proofs.lemmas.List.{append-nil}
use Rattle.std.proofs.lemmas.Grind.{common_steps}
use Rattle.std.proofs.lemmas.Option.{some_pair_parts}
use Rattle.ftn_tree.specs.declared.token.Token.{Token}
use Rattle.ftn_tree.specs.declared.lexeme.Lexeme.{Lexeme}
use Rattle.ftn_tree.specs.Phrases.{Phrase, nothing, never, ◌·◌, each}
use Rattle.ftn_tree.proofs.PhraseLaws.{placed}
use Rattle.expr_parse.specs.steps.Input.{Input, input, Reader, ◌>>=◌, is_done, done_at}
use Rattle.expr_parse.proofs.Pieces.{Piece, Took, Apart, begins, begins_after, bind_some, bind_is, took_both, apart_from}
use Rattle.expr_parse.proofs.Ends.{any, no_rest}
use Rattle.spec_parse.specs.steps.Data.{each_from}
use Rattle.expr_parse.proofs.TokenRows.{none_fits, fewer_after}

not_done : (first : Lexeme → Bool) (tokens : List Token) → begins first tokens ≡ true → done_at tokens ≡ false
not_done first [] e = absurd (cc e)
not_done first (here ∷ rest) e = refl

some_tokens : (first : Lexeme → Bool) (tokens : List Token) → begins first tokens ≡ true → 1 ≤ length tokens
some_tokens first [] e = absurd (cc e)
some_tokens first (here ∷ tokens) e = grind (arith, common_steps)

module _ {A : Type 0} (piece : Piece A) (filled : piece.empty ≡ false) (apart : Apart piece.first piece.more) where
  begun_filled : (a : A) (at : ℕ) (tokens : List Token) → piece.phrase a at tokens → begins piece.first tokens ≡ true
  begun_filled a at tokens says = by (piece.begun a at tokens says) where
    by : (begins piece.first tokens ≡ true) ⊎ ((tokens ≡ []) × (piece.empty ≡ true)) → begins piece.first tokens ≡ true
    by (inl e) = e
    by (inr none) = absurd (cc (filled, none.1))

  -- nothing that a piece, before one of this kind or the end, would go on with
  stops : (more : Lexeme → Bool) (items : List A) (at : ℕ) (tokens : List Token) → Apart piece.first more → each piece.phrase items at tokens → begins more tokens ≡ false
  stops more [] at tokens other says = subst (λ tokens. begins more tokens ≡ false) (sym says) refl
  stops more (a ∷ items) at tokens other (before, after, split, says, says_rest) =
      apart_from piece.first more tokens other (subst (λ tokens. begins piece.first tokens ≡ true) (sym split) (begins_after piece.first before after (begun_filled a at before says)))

  -- ---- what is read is written so

  record Found (found all : List A) (i j : Input) : Type 0 where
    items : List A
    is : all ≡ found ++ items
    took : Took (each piece.phrase items) i j

  none_found : (found all : List A) (i j : Input) → ◌≡◌ {A = Option (List A × Input)} (Some (found, i)) (Some (all, j)) → Found found all i j
  none_found found all i j e =
      let same = some_pair_parts found all i j e in
      record {
        items = [];
        is = sym same.0 ∙ sym (append-nil found);
        took = subst (λ j. Took nothing i j) same.1 (record { tokens = []; rest = refl; at = sym (add-zero i.at); says = refl });
      }

  abbrev turn : ℕ → List A → Bool → Reader (List A)
  turn n found done i = if done then Some (found, i) else (piece.read >>= (λ next. each_from piece.read n (found ++ next ∷ []))) i

  each_sound : (n : ℕ) (found all : List A) (i j : Input) → each_from piece.read n found i ≡ Some (all, j) → Found found all i j
  unfolding each_from
  each_sound zero found all i j e = none_found found all i j e
  each_sound (suc n) found all i j e = by (λ a k. each_sound n (found ++ a ∷ []) all k j) (is_done i) refl where
    by : ((a : A) (k : Input) → each_from piece.read n (found ++ a ∷ []) k ≡ Some (all, j) → Found (found ++ a ∷ []) all k j) → (done : Bool) → is_done i ≡ done → Found found all i j
    by onward true is = none_found found all i j (sym (ap (λ done. turn n found done i) is) ∙ e)
    by onward false is =
        let (a, k, read, rest) = bind_some (piece.read i) (λ next. each_from piece.read n (found ++ next ∷ [])) all j (sym (ap (λ done. turn n found done i) is) ∙ e) in
        let later = onward a k rest in
        record {
          items = a ∷ later.items;
          is = later.is ∙ append_assoc found (a ∷ []) later.items;
          took = took_both (piece.phrase a) (each piece.phrase later.items) i k j (piece.sound i a k read) later.took;
        }

  -- ---- what is written so is read

  abbrev Reads : ℕ → List A → List A → ℕ → List Token → Type 0
  Reads n found items at tokens = each_from piece.read n found (input at tokens) ≡ Some (found ++ items, input (at + length tokens) [])

  read_none : (n : ℕ) (found : List A) (at : ℕ) → Reads n found [] at []
  unfolding each_from is_done
  read_none zero found at = ap (λ found. Some (found, input at [])) (sym (append-nil found)) ∙ ap (λ place. Some (found ++ [], input place [])) (sym (add-zero at))
  read_none (suc n) found at = ap (λ found. Some (found, input at [])) (sym (append-nil found)) ∙ ap (λ place. Some (found ++ [], input place [])) (sym (add-zero at))

  read_next : (n : ℕ) (found : List A) (a : A) (items : List A) (at : ℕ) (before after : List Token) → piece.phrase a at before → begins piece.more after ≡ false
      → Reads n (found ++ a ∷ []) items (at + length before) after → Reads (suc n) found (a ∷ items) at (before ++ after)
  unfolding each_from is_done
  read_next n found a items at before after says stop onward =
      let answer = Some ((found ++ a ∷ []) ++ items, input ((at + length before) + length after) []) in
      let one = bind_is (piece.read (input at (before ++ after))) (λ next. each_from piece.read n (found ++ next ∷ [])) a (input (at + length before) after) answer (piece.complete a at before after says stop) onward in
      ap (λ done. turn n found done (input at (before ++ after))) (not_done piece.first (before ++ after) (begins_after piece.first before after (begun_filled a at before says))) ∙ one
      ∙ ap (λ all. Some (all, input ((at + length before) + length after) [])) (append_assoc found (a ∷ []) items)
      ∙ ap (λ place. Some (found ++ a ∷ items, input place [])) (placed at before after)

  each_complete : (items : List A) (n : ℕ) (found : List A) (at : ℕ) (tokens : List Token) → each piece.phrase items at tokens → length tokens ≤ n → Reads n found items at tokens
  each_complete [] n found at tokens says small = subst (λ tokens. Reads n found [] at tokens) (sym says) (read_none n found at)
  each_complete (a ∷ items) zero found at tokens (before, after, split, says, says_rest) small =
      absurd (none_fits before after (some_tokens piece.first before (begun_filled a at before says)) (subst (λ tokens. length tokens ≤ 0) split small))
  each_complete (a ∷ items) (suc n) found at tokens (before, after, split, says, says_rest) small =
      subst (λ tokens. Reads (suc n) found (a ∷ items) at tokens) (sym split)
      (read_next n found a items at before after says (stops piece.more items (at + length before) after apart says_rest)
      (each_complete items n (found ++ a ∷ []) (at + length before) after says_rest
      (fewer_after n before after (some_tokens piece.first before (begun_filled a at before says)) (subst (λ tokens. length tokens ≤ suc n) split small))))

  -- ---- with another piece before them

  module _ (one : Piece A) (before_one : Apart piece.first one.more) where
    abbrev pub row_phrase : List A → Phrase
    row_phrase [] = never
    row_phrase (a ∷ items) = one.phrase a · each piece.phrase items

    abbrev all_from : A → Reader (List A)
    all_from first i = each_from piece.read (length i.rest) (first ∷ []) i

    abbrev pub read_row : Reader (List A)
    read_row = one.read >>= (λ first i. each_from piece.read (length i.rest) (first ∷ []) i)

    pub begun_row : (all : List A) (at : ℕ) (tokens : List Token) → row_phrase all at tokens → (begins any tokens ≡ true) ⊎ ((tokens ≡ []) × (true ≡ true))
    begun_row all at [] says = inr (refl, refl)
    begun_row all at (here ∷ tokens) says = inl refl

    row_taken : (first : A) (all items : List A) (i k j : Input) → all ≡ first ∷ items → Took (one.phrase first) i k → Took (each piece.phrase items) k j → Took (row_phrase all) i j
    row_taken first all items i k j is took later = subst (λ all. Took (row_phrase all) i j) (sym is) (took_both (one.phrase first) (each piece.phrase items) i k j took later)

    pub sound_row : (i : Input) (all : List A) (j : Input) → (one.read >>= (λ first i. each_from piece.read (length i.rest) (first ∷ []) i)) i ≡ Some (all, j) → Took (row_phrase all) i j
    sound_row i all j e =
        let (first, k, read, rest) = bind_some (one.read i) all_from all j e in
        let found = each_sound (length k.rest) (first ∷ []) all k j rest in
        row_taken first all found.items i k j found.is (one.sound i first k read) found.took

    row_read : (first : A) (items : List A) (at : ℕ) (before after : List Token) → one.phrase first at before → each piece.phrase items (at + length before) after
        → read_row (input at (before ++ after)) ≡ Some (first ∷ items, input (at + length (before ++ after)) [])
    row_read first items at before after says says_rest =
        let read = one.complete first at before after says (stops one.more items (at + length before) after before_one says_rest) in
        let rest = each_complete items (length after) (first ∷ []) (at + length before) after says_rest (le_refl (length after)) in
        bind_is (one.read (input at (before ++ after))) all_from first (input (at + length before) after) (Some (first ∷ items, input (at + length (before ++ after)) [])) read
        (rest ∙ ap (λ place. Some (first ∷ items, input place [])) (placed at before after))

    pub complete_row : (all : List A) (at : ℕ) (tokens rest : List Token) → row_phrase all at tokens → begins any rest ≡ false
        → (one.read >>= (λ first i. each_from piece.read (length i.rest) (first ∷ []) i)) (input at (tokens ++ rest)) ≡ Some (all, input (at + length tokens) rest)
    complete_row [] at tokens rest says stop = absurd says
    complete_row (first ∷ items) at tokens rest (before, after, split, says, says_rest) stop =
        let read = subst (λ tokens. read_row (input at tokens) ≡ Some (first ∷ items, input (at + length tokens) [])) (sym split) (row_read first items at before after says says_rest) in
        subst (λ rest. read_row (input at (tokens ++ rest)) ≡ Some (first ∷ items, input (at + length tokens) rest)) (sym (no_rest rest stop))
        (subst (λ all. read_row (input at all) ≡ Some (first ∷ items, input (at + length tokens) [])) (sym (append-nil tokens)) read)

    abbrev pub row_piece : Piece (List A)
    row_piece = record {
      phrase = row_phrase;
      read = one.read >>= (λ first i. each_from piece.read (length i.rest) (first ∷ []) i);
      first = any;
      empty = true;
      more = any;
      begun = begun_row;
      sound = sound_row;
      complete = complete_row;
    }
