-- Pieces of lists each item of which has its comma before it.
use Rattle.std.proofs.Common.{◌≡◌, refl, sym, ◌∙◌, ap, subst, arith, ℕ, zero, suc, ◌+◌, ◌≤◌, Bool, true, false, ◌||◌, List, [], ◌∷◌, ◌++◌, length, Option, Some, append_assoc, ◌⊎◌, inl, inr, if◌then◌else◌, add-zero}
use Rattle.std.proofs.lemmas.Grind.{common_steps}
use Rattle.std.proofs.lemmas.Option.{some_pair_parts}
use Rattle.std.proofs.lemmas.List.{append-nil}
use Rattle.ftn_tree.specs.declared.token.Token.{Token}
use Rattle.ftn_tree.specs.declared.lexeme.Lexeme.{Lexeme}
use Rattle.ftn_tree.specs.declared.lexeme.Lexeme.TheVariants.{Comma}
use Rattle.ftn_tree.specs.Lexemes.{lexeme_of}
use Rattle.ftn_tree.specs.Phrases.{nothing, ◌·◌, mark, after_commas}
use Rattle.expr_parse.specs.steps.Input.{Input, input, Reader, ◌>>=◌, pure, after, after_if, sees}
use Rattle.expr_parse.specs.steps.Combinators.{each_after_comma, each_after_comma_from}
use Rattle.expr_parse.proofs.Pieces.{Piece, Took, Apart, begins, begins_or, bind_some, bind_is, took_both}
use Rattle.expr_parse.proofs.Tokens.{only, is_same}
use Rattle.expr_parse.proofs.Lists.{took_mark}
use Rattle.expr_parse.proofs.TokenRows.{enough}

module _ {A : Type 0} (piece : Piece A) (apart : Apart (only Comma) piece.more) where
  abbrev pub tail_more : Lexeme → Bool
  tail_more kind = piece.more kind || only Comma kind

  abbrev next : ℕ → List A → Bool → Reader (List A)
  next n found again = if again then (piece.read >>= (λ a. each_after_comma_from piece.read n (found ++ a ∷ []))) else pure found

  record Found (found all : List A) (i j : Input) : Type 0 where
    items : List A
    is : all ≡ found ++ items
    took : Took (after_commas piece.phrase items) i j

  none_found : (found all : List A) (i j : Input) → ◌≡◌ {A = Option (List A × Input)} (Some (found, i)) (Some (all, j)) → Found found all i j
  none_found found all i j e =
      let same = some_pair_parts found all i j e in
      record {
        items = [];
        is = sym same.0 ∙ sym (append-nil found);
        took = subst (λ j. Took nothing i j) same.1 (record { tokens = []; rest = refl; at = sym (add-zero i.at); says = refl });
      }

  sound_from : (n : ℕ) (found all : List A) (i j : Input) → each_after_comma_from piece.read n found i ≡ Some (all, j) → Found found all i j
  unfolding each_after_comma_from
  sound_from zero found all i j e = none_found found all i j e
  sound_from (suc n) found all i j e = by (λ a k. sound_from n (found ++ a ∷ []) all k j) (sees Comma i) refl where
    by : ((a : A) (k : Input) → each_after_comma_from piece.read n (found ++ a ∷ []) k ≡ Some (all, j) → Found (found ++ a ∷ []) all k j) → (there : Bool) → sees Comma i ≡ there → Found found all i j
    by onward true there =
        let (a, k, read, rest) = bind_some (piece.read (after i)) (λ a. each_after_comma_from piece.read n (found ++ a ∷ [])) all j (sym (ap (λ there. next n found there (after_if there i)) there) ∙ e) in
        let later = onward a k rest in
        record {
          items = a ∷ later.items;
          is = later.is ∙ append_assoc found (a ∷ []) later.items;
          took = took_both (mark Comma) (piece.phrase a · after_commas piece.phrase later.items) i (after i) j (took_mark Comma i there)
              (took_both (piece.phrase a) (after_commas piece.phrase later.items) (after i) k j (piece.sound (after i) a k read) later.took);
        }
    by onward false there = none_found found all i j (sym (ap (λ there. next n found there (after_if there i)) there) ∙ e)

  pub sound_tail : (i : Input) (all : List A) (j : Input) → each_after_comma piece.read i ≡ Some (all, j) → Took (after_commas piece.phrase all) i j
  sound_tail i all j e = let found = sound_from (length i.rest) [] all i j e in subst (λ all. Took (after_commas piece.phrase all) i j) (sym found.is) found.took

  -- a list of items begins with a comma, or is empty
  comma_first : (items : List A) (at : ℕ) (tokens : List Token) → after_commas piece.phrase items at tokens → (begins (only Comma) tokens ≡ true) ⊎ (tokens ≡ [])
  comma_first [] at tokens says = inr says
  comma_first (a ∷ items) at tokens (before, after, split, (comma, is_one, is_comma), says) =
      inl (subst (λ tokens. begins (only Comma) tokens ≡ true) (sym (split ∙ ap (λ before. before ++ after) is_one)) (is_same (lexeme_of comma) Comma is_comma))

  pub begun_tail : (all : List A) (at : ℕ) (tokens : List Token) → after_commas piece.phrase all at tokens → (begins (only Comma) tokens ≡ true) ⊎ ((tokens ≡ []) × (true ≡ true))
  begun_tail all at tokens says = by (comma_first all at tokens says) where
    by : (begins (only Comma) tokens ≡ true) ⊎ (tokens ≡ []) → (begins (only Comma) tokens ≡ true) ⊎ ((tokens ≡ []) × (true ≡ true))
    by (inl e) = inl e
    by (inr e) = inr (e, refl)

  abbrev Reads : ℕ → List A → List A → ℕ → List Token → List Token → Type 0
  Reads n found items at tokens rest = each_after_comma_from piece.read n found (input at (tokens ++ rest)) ≡ Some (found ++ items, input (at + length tokens) rest)

  read_none : (n : ℕ) (found : List A) (at : ℕ) (rest : List Token) → begins tail_more rest ≡ false → Reads n found [] at [] rest
  unfolding each_after_comma_from sees
  read_none zero found at rest stops = ap (λ found. Some (found, input at rest)) (sym (append-nil found)) ∙ ap (λ place. Some (found ++ [], input place rest)) (sym (add-zero at))
  read_none (suc n) found at rest stops =
      ap (λ there. next n found there (after_if there (input at rest))) (begins_or piece.more (only Comma) rest stops).1
      ∙ ap (λ found. Some (found, input at rest)) (sym (append-nil found)) ∙ ap (λ place. Some (found ++ [], input place rest)) (sym (add-zero at))

  stopped : (items : List A) (at : ℕ) (after rest : List Token) → after_commas piece.phrase items at after → begins tail_more rest ≡ false → begins piece.more (after ++ rest) ≡ false
  stopped items at after rest says stops = by after (comma_first items at after says) where
    by : (after : List Token) → (begins (only Comma) after ≡ true) ⊎ (after ≡ []) → begins piece.more (after ++ rest) ≡ false
    by [] e = (begins_or piece.more (only Comma) rest stops).0
    by (here ∷ after) (inl e) = apart (lexeme_of here) e
    by (here ∷ after) (inr e) = absurd (cc e)

  moved : (at : ℕ) (before after : List Token) (comma : Token) → ((at + 1) + length before) + length after ≡ at + length (comma ∷ (before ++ after))
  moved at before after comma = grind (arith, common_steps)

  read_next : (n : ℕ) (found : List A) (a : A) (items : List A) (at : ℕ) (before after rest : List Token) (comma : Token) → lexeme_of comma ≡ Comma → piece.phrase a (at + 1) before
      → begins piece.more (after ++ rest) ≡ false → Reads n (found ++ a ∷ []) items ((at + 1) + length before) after rest → Reads (suc n) found (a ∷ items) at (comma ∷ (before ++ after)) rest
  unfolding each_after_comma_from sees
  read_next n found a items at before after rest comma is says stop onward =
      let answer = Some ((found ++ a ∷ []) ++ items, input (((at + 1) + length before) + length after) rest) in
      let item = bind_is (piece.read (input (at + 1) (before ++ (after ++ rest)))) (λ a. each_after_comma_from piece.read n (found ++ a ∷ [])) a (input ((at + 1) + length before) (after ++ rest)) answer
      (piece.complete a (at + 1) before (after ++ rest) says stop) onward in
      let joined = subst (λ tokens. next n found true (input (at + 1) tokens) ≡ answer) (sym (append_assoc before after rest)) item in
      ap (λ there. next n found there (after_if there (input at (comma ∷ ((before ++ after) ++ rest))))) (is_same (lexeme_of comma) Comma is) ∙ joined
      ∙ ap (λ all. Some (all, input (((at + 1) + length before) + length after) rest)) (append_assoc found (a ∷ []) items)
      ∙ ap (λ place. Some (found ++ a ∷ items, input place rest)) (moved at before after comma)

  few : (n : ℕ) (before after : List Token) (comma : Token) → length (comma ∷ (before ++ after)) ≤ suc n → length after ≤ n
  few n before after comma e = grind (arith, common_steps)

  too_few : (before after : List Token) (comma : Token) → length (comma ∷ (before ++ after)) ≤ 0 → ⊥
  too_few before after comma e = grind (arith, common_steps)

  complete_from : (items : List A) (n : ℕ) (found : List A) (at : ℕ) (tokens rest : List Token) → after_commas piece.phrase items at tokens → length tokens ≤ n → begins tail_more rest ≡ false → Reads n found items at tokens rest
  complete_from [] n found at tokens rest says small stops = subst (λ tokens. Reads n found [] at tokens rest) (sym says) (read_none n found at rest stops)
  complete_from (a ∷ items) zero found at tokens rest (one, both, split, (comma, is_one, is_comma), (before, after, split_both, says, says_rest)) small stops =
      absurd (too_few before after comma (subst (λ tokens. length tokens ≤ 0) (split ∙ ap (λ one. one ++ both) is_one ∙ ap (λ both. comma ∷ both) split_both) small))
  complete_from (a ∷ items) (suc n) found at tokens rest (one, both, split, (comma, is_one, is_comma), (before, after, split_both, says, says_rest)) small stops =
      let whole = split ∙ ap (λ one. one ++ both) is_one ∙ ap (λ both. comma ∷ both) split_both in
      let place = ap (λ one. at + length one) is_one in
      let says_a = subst (λ place. piece.phrase a place before) place says in
      let says_items = subst (λ place. after_commas piece.phrase items (place + length before) after) place says_rest in
      let onward = complete_from items n (found ++ a ∷ []) ((at + 1) + length before) after rest says_items (few n before after comma (subst (λ tokens. length tokens ≤ suc n) whole small)) stops in
      subst (λ tokens. Reads (suc n) found (a ∷ items) at tokens rest) (sym whole)
      (read_next n found a items at before after rest comma is_comma says_a (stopped items ((at + 1) + length before) after rest says_items stops) onward)

  pub complete_tail : (all : List A) (at : ℕ) (tokens rest : List Token) → after_commas piece.phrase all at tokens → begins tail_more rest ≡ false
      → each_after_comma piece.read (input at (tokens ++ rest)) ≡ Some (all, input (at + length tokens) rest)
  complete_tail all at tokens rest says stops = complete_from all (length (tokens ++ rest)) [] at tokens rest says (enough tokens rest) stops

  -- none or more, each with its comma before it
  abbrev pub tail : Piece (List A)
  tail = record {
    phrase = after_commas piece.phrase;
    read = each_after_comma piece.read;
    first = only Comma;
    empty = true;
    more = tail_more;
    begun = begun_tail;
    sound = sound_tail;
    complete = complete_tail;
  }
