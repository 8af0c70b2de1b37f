-- Phrases with their readers. A piece says what a reader reads: what it gives is a phrase of exactly the tokens that it took, and
-- where tokens are the phrase of a value, and what follows can't go on with it, the reader gives this value.
use Rattle.std.proofs.Common.{◌≡◌, refl, sym, ◌∙◌, ap, subst, arith, ℕ, ◌+◌, Bool, true, false, ◌||◌, ◌&&◌, List, [], ◌∷◌, ◌++◌, length, drop, Option, Some, None, append_assoc, ◌⊎◌, inl, inr, if◌then◌else◌, add-zero}
use Rattle.std.proofs.lemmas.Grind.{common_steps}
use Rattle.std.proofs.lemmas.Option.{some_pair_parts}
use Rattle.std.proofs.lemmas.Bool.{and_from}
use Rattle.std.proofs.Math.Bool.{or-true}
use Rattle.ftn_tree.specs.declared.token.Token.{Token}
use Rattle.ftn_tree.specs.declared.lexeme.Lexeme.{Lexeme}
use Rattle.ftn_tree.specs.Lexemes.{lexeme_of, same_lexeme}
use Rattle.ftn_tree.specs.Phrases.{Phrase, nothing, ◌·◌, token, maybe}
use Rattle.ftn_tree.proofs.PhraseLaws.{placed}
use Rattle.expr_parse.specs.steps.Input.{Input, input, Reader, Outcome, and_then, ◌>>=◌, ◌>>◌, pure, holds_first, taken_if, after, sees}
use Rattle.expr_parse.specs.steps.Combinators.{◌<$>◌, ◌⊗◌, option_if}

-- the first of these tokens, if there is one, is such
abbrev pub begins : (Lexeme → Bool) → List Token → Bool
begins kinds = holds_first (λ here. kinds (lexeme_of here))

-- the tokens between two inputs
pub record Took (phrase : Phrase) (before after : Input) : Type 0 where
  pub tokens : List Token
  pub rest : before.rest ≡ tokens ++ after.rest
  pub at : after.at ≡ before.at + length tokens
  pub says : phrase before.at tokens

pub record Piece (A : Type 0) : Type 1 where
  pub phrase : A → Phrase
  pub read : Reader A
  -- with what it may begin, and whether it may be empty
  pub first : Lexeme → Bool
  pub empty : Bool
  -- with what it would go on
  pub more : Lexeme → Bool
  pub begun : (a : A) (at : ℕ) (tokens : List Token) → phrase a at tokens → (begins first tokens ≡ true) ⊎ ((tokens ≡ []) × (empty ≡ true))
  pub sound : (i : Input) (a : A) (j : Input) → read i ≡ Some (a, j) → Took (phrase a) i j
  pub complete : (a : A) (at : ℕ) (tokens rest : List Token) → phrase a at tokens → begins more rest ≡ false → read (input at (tokens ++ rest)) ≡ Some (a, input (at + length tokens) rest)

pub bind_some : {A B : Type 0} (one : Outcome A) (next : A → Reader B) (b : B) (j : Input) → and_then one next ≡ Some (b, j) → (a : A) × (k : Input) × (one ≡ Some (a, k)) × (next a k ≡ Some (b, j))
bind_some (Some found) next b j e = (found.0, found.1, refl, e)
bind_some None next b j e = absurd (cc e)

-- ---- one piece after the other

-- tokens that may begin the one aren't such with which the other would go on
abbrev pub Apart : (Lexeme → Bool) → (Lexeme → Bool) → Type 0
Apart one other = (kind : Lexeme) → one kind ≡ true → other kind ≡ false

pub begins_after : (kinds : Lexeme → Bool) (one rest : List Token) → begins kinds one ≡ true → begins kinds (one ++ rest) ≡ true
begins_after kinds [] rest e = absurd (cc e)
begins_after kinds (here ∷ one) rest e = e

pub apart_from : (one other : Lexeme → Bool) (tokens : List Token) → Apart one other → begins one tokens ≡ true → begins other tokens ≡ false
apart_from one other [] apart e = refl
apart_from one other (here ∷ rest) apart e = apart (lexeme_of here) e

or_left : (a b : Bool) → (a || b) ≡ false → a ≡ false
or_left false b e = refl
or_left true b e = absurd (cc e)

or_right : (a b : Bool) → (a || b) ≡ false → b ≡ false
or_right false b e = e
or_right true b e = absurd (cc e)

and_true : (a b : Bool) → a ≡ true → (a && b) ≡ b
and_true true b e = refl
and_true false b e = absurd (cc e)

pub begins_or : (one other : Lexeme → Bool) (tokens : List Token) → begins (λ kind. one kind || other kind) tokens ≡ false → (begins one tokens ≡ false) × (begins other tokens ≡ false)
begins_or one other [] e = (refl, refl)
begins_or one other (here ∷ rest) e = (or_left (one (lexeme_of here)) (other (lexeme_of here)) e, or_right (one (lexeme_of here)) (other (lexeme_of here)) e)

pub took_both : (one other : Phrase) (i j k : Input) → Took one i j → Took other j k → Took (one · other) i k
took_both one other i j k a b = record {
  tokens = a.tokens ++ b.tokens;
  rest = a.rest ∙ ap (λ rest. a.tokens ++ rest) b.rest ∙ sym (append_assoc a.tokens b.tokens k.rest);
  at = b.at ∙ ap (λ at. at + length b.tokens) a.at ∙ placed i.at a.tokens b.tokens;
  says = (a.tokens, b.tokens, refl, a.says, subst (λ at. other at b.tokens) a.at b.says);
}

pub begins_left : (one other : Lexeme → Bool) (tokens : List Token) → begins one tokens ≡ true → begins (λ kind. one kind || other kind) tokens ≡ true
begins_left one other [] e = e
begins_left one other (here ∷ rest) e = ap (λ b. b || other (lexeme_of here)) e

pub begins_right : (one other : Lexeme → Bool) (tokens : List Token) → begins other tokens ≡ true → begins (λ kind. one kind || other kind) tokens ≡ true
begins_right one other [] e = e
begins_right one other (here ∷ rest) e = ap (λ b. one (lexeme_of here) || b) e ∙ or-true (one (lexeme_of here))

begins_and : (given : Bool) (kinds : Lexeme → Bool) (tokens : List Token) → given ≡ true → begins kinds tokens ≡ begins (λ kind. given && kinds kind) tokens
begins_and true kinds tokens e = refl
begins_and false kinds tokens e = absurd (cc e)

pub stops_before : (first more : Lexeme → Bool) (after rest : List Token) → Apart first more → begins first after ≡ true → begins more (after ++ rest) ≡ false
stops_before first more [] rest apart e = absurd (cc e)
stops_before first more (here ∷ after) rest apart e = apart (lexeme_of here) e

pub bind_is : {A B : Type 0} (one : Outcome A) (next : A → Reader B) (a : A) (k : Input) (gives : Outcome B) → one ≡ Some (a, k) → next a k ≡ gives → and_then one next ≡ gives
bind_is one next a k gives e f = ap (λ found. and_then found next) e ∙ f

module _ {A B : Type 0} (one : Piece A) (other : Piece B) where
  pair_first : Lexeme → Bool
  pair_first kind = one.first kind || (one.empty && other.first kind)

  pair_more : Lexeme → Bool
  pair_more kind = other.more kind || (other.empty && one.more kind)

  pub begun_seq : (both : A × B) (at : ℕ) (tokens : List Token) → (one.phrase both.0 · other.phrase both.1) at tokens
      → (begins (λ kind. one.first kind || (one.empty && other.first kind)) tokens ≡ true) ⊎ ((tokens ≡ []) × ((one.empty && other.empty) ≡ true))
  begun_seq both at tokens (before, after, split, says, says_other) = by_one (one.begun both.0 at before says) where
    by_other : (before ≡ []) → (one.empty ≡ true) → (begins other.first after ≡ true) ⊎ ((after ≡ []) × (other.empty ≡ true))
        → (begins (λ kind. one.first kind || (one.empty && other.first kind)) tokens ≡ true) ⊎ ((tokens ≡ []) × ((one.empty && other.empty) ≡ true))
    by_other none empty (inl first) = inl (subst (λ tokens. begins (λ kind. one.first kind || (one.empty && other.first kind)) tokens ≡ true)
        (sym (split ∙ ap (λ before. before ++ after) none))
        (begins_right one.first (λ kind. one.empty && other.first kind) after (sym (begins_and one.empty other.first after empty) ∙ first)))
    by_other none empty (inr last) = inr (split ∙ ap (λ before. before ++ after) none ∙ last.0, and_from one.empty other.empty empty last.1)

    by_one : (begins one.first before ≡ true) ⊎ ((before ≡ []) × (one.empty ≡ true))
        → (begins (λ kind. one.first kind || (one.empty && other.first kind)) tokens ≡ true) ⊎ ((tokens ≡ []) × ((one.empty && other.empty) ≡ true))
    by_one (inl first) = inl (subst (λ tokens. begins (λ kind. one.first kind || (one.empty && other.first kind)) tokens ≡ true) (sym split)
        (begins_left one.first (λ kind. one.empty && other.first kind) (before ++ after) (begins_after one.first before after first)))
    by_one (inr none) = by_other none.0 none.1 (other.begun both.1 (at + length before) after says_other)

  pub sound_seq : (i : Input) (both : A × B) (j : Input) → (one.read ⊗ other.read) i ≡ Some (both, j) → Took (one.phrase both.0 · other.phrase both.1) i j
  sound_seq i both j e =
      let s = bind_some (one.read i) (λ a. other.read >>= (λ b. pure (a, b))) both j e in
      let t = bind_some (other.read s.1) (λ b. pure (s.0, b)) both j s.3 in
      let same = some_pair_parts (s.0, t.0) both t.1 j t.3 in
      let took = took_both (one.phrase s.0) (other.phrase t.0) i s.1 t.1 (one.sound i s.0 s.1 s.2) (other.sound s.1 t.0 t.1 t.2) in
      subst (λ both. Took (one.phrase both.0 · other.phrase both.1) i j) same.0 (subst (λ j. Took (one.phrase s.0 · other.phrase t.0) i j) same.1 took)

  stopped : Apart other.first one.more → (b : B) (at : ℕ) (after rest : List Token) → other.phrase b at after
      → begins (λ kind. other.more kind || (other.empty && one.more kind)) rest ≡ false → begins one.more (after ++ rest) ≡ false
  stopped apart b at after rest says stops = by (other.begun b at after says) where
    by : (begins other.first after ≡ true) ⊎ ((after ≡ []) × (other.empty ≡ true)) → begins one.more (after ++ rest) ≡ false
    by (inl first) = stops_before other.first one.more after rest apart first
    by (inr none) = ap (λ after. begins one.more (after ++ rest)) none.0 ∙ begins_and other.empty one.more rest none.1
        ∙ (begins_or other.more (λ kind. other.empty && one.more kind) rest stops).1

  pub complete_seq : Apart other.first one.more → (both : A × B) (at : ℕ) (tokens rest : List Token) → (one.phrase both.0 · other.phrase both.1) at tokens
      → begins (λ kind. other.more kind || (other.empty && one.more kind)) rest ≡ false
      → (one.read ⊗ other.read) (input at (tokens ++ rest)) ≡ Some (both, input (at + length tokens) rest)
  complete_seq apart both at tokens rest (before, after, split, says, says_other) stops =
      let later = other.complete both.1 (at + length before) after rest says_other (begins_or other.more (λ kind. other.empty && one.more kind) rest stops).0 in
      let read = one.complete both.0 at before (after ++ rest) says (stopped apart both.1 (at + length before) after rest says_other stops) in
      let ends = bind_is (other.read (input (at + length before) (after ++ rest))) (λ b. pure (both.0, b)) both.1 (input ((at + length before) + length after) rest) (Some (both, input ((at + length before) + length after) rest)) later refl in
      let all = bind_is (one.read (input at (before ++ (after ++ rest)))) (λ a. other.read >>= (λ b. pure (a, b))) both.0 (input (at + length before) (after ++ rest)) (Some (both, input ((at + length before) + length after) rest)) read ends in
      let joined = subst (λ tokens. (one.read ⊗ other.read) (input at tokens) ≡ Some (both, input ((at + length before) + length after) rest)) (sym (append_assoc before after rest)) all in
      let placed_at = subst (λ place. (one.read ⊗ other.read) (input at ((before ++ after) ++ rest)) ≡ Some (both, input place rest)) (placed at before after) joined in
      subst (λ tokens. (one.read ⊗ other.read) (input at (tokens ++ rest)) ≡ Some (both, input (at + length tokens) rest)) (sym split) placed_at

  -- where what may begin the other isn't such with which the one would go on
  abbrev pub seq : Apart other.first one.more → Piece (A × B)
  seq apart = record {
    phrase = λ both. one.phrase both.0 · other.phrase both.1;
    read = one.read ⊗ other.read;
    first = λ kind. one.first kind || (one.empty && other.first kind);
    empty = one.empty && other.empty;
    more = λ kind. other.more kind || (other.empty && one.more kind);
    begun = begun_seq;
    sound = sound_seq;
    complete = complete_seq apart;
  }

-- ---- one token

-- what a token says, where it holds, is its number
module _ (test : Token → Bool) (first : Lexeme → Bool) (only : (here : Token) → test here ≡ true → first (lexeme_of here) ≡ true) where
  abbrev one_phrase : ℕ → Phrase
  one_phrase number = token (λ at here. (number ≡ at) × (test here ≡ true))

  abbrev one_read : Reader ℕ
  one_read i = taken_if (holds_first test i.rest) i

  pub begun_one : (a : ℕ) (at : ℕ) (tokens : List Token) → one_phrase a at tokens → (begins first tokens ≡ true) ⊎ ((tokens ≡ []) × (false ≡ true))
  begun_one a at tokens (here, split, (number, holds)) = inl (subst (λ tokens. begins first tokens ≡ true) (sym split) (only here holds))

  took_one : (at : ℕ) (here : Token) (rest : List Token) (a : ℕ) (j : Input) → test here ≡ true → ◌≡◌ {A = Option (ℕ × Input)} (Some (at, input (at + 1) rest)) (Some (a, j)) → Took (one_phrase a) (input at (here ∷ rest)) j
  took_one at here rest a j holds e =
      let same = some_pair_parts at a (input (at + 1) rest) j e in
      subst (λ j. Took (one_phrase a) (input at (here ∷ rest)) j) same.1 (record {
        tokens = here ∷ [];
        rest = refl;
        at = refl;
        says = (here, refl, (sym same.0, holds));
      })

  pub sound_by : (i : Input) (a : ℕ) (j : Input) (rest : List Token) → i.rest ≡ rest → taken_if (holds_first test rest) i ≡ Some (a, j) → Took (one_phrase a) i j
  sound_by i a j [] is e = absurd (cc e)
  sound_by i a j (here ∷ rest) is e = by (test here) refl e where
    by : (found : Bool) → test here ≡ found → taken_if found i ≡ Some (a, j) → Took (one_phrase a) i j
    by true holds e = subst (λ row. Took (one_phrase a) (input i.at row) j) (sym is) (took_one i.at here rest a j holds (ap (λ row. Some (i.at, input (i.at + 1) (drop 1 row))) (sym is) ∙ e))
    by false holds e = absurd (cc e)

  pub complete_one : (a : ℕ) (at : ℕ) (tokens rest : List Token) → one_phrase a at tokens → begins (λ kind. false) rest ≡ false → one_read (input at (tokens ++ rest)) ≡ Some (a, input (at + length tokens) rest)
  complete_one a at tokens rest (here, split, (number, holds)) stops =
      subst (λ tokens. one_read (input at (tokens ++ rest)) ≡ Some (a, input (at + length tokens) rest)) (sym split)
      (ap (λ found. taken_if found (input at (here ∷ rest))) holds ∙ ap (λ n. Some (n, input (at + 1) rest)) (sym number))

  abbrev pub one : Piece ℕ
  one = record {
    phrase = one_phrase;
    read = one_read;
    first = first;
    empty = false;
    more = λ kind. false;
    begun = begun_one;
    sound = λ i a j e. sound_by i a j i.rest refl e;
    complete = complete_one;
  }

-- ---- other values

-- a reader's values made into others, one for one as far as phrases go
module _ {A B : Type 0} (piece : Piece A) (f : A → B) (phrase : B → Phrase)
    (made : (a : A) (at : ℕ) (tokens : List Token) → piece.phrase a at tokens → phrase (f a) at tokens)
    (back : (b : B) (at : ℕ) (tokens : List Token) → phrase b at tokens → (a : A) × (f a ≡ b) × piece.phrase a at tokens) where
  pub begun_mapped : (b : B) (at : ℕ) (tokens : List Token) → phrase b at tokens → (begins piece.first tokens ≡ true) ⊎ ((tokens ≡ []) × (piece.empty ≡ true))
  begun_mapped b at tokens says = let (a, is, says_a) = back b at tokens says in piece.begun a at tokens says_a

  pub sound_mapped : (i : Input) (b : B) (j : Input) → (f <$> piece.read) i ≡ Some (b, j) → Took (phrase b) i j
  sound_mapped i b j e =
      let s = bind_some (piece.read i) (λ a. pure (f a)) b j e in
      let same = some_pair_parts (f s.0) b s.1 j s.3 in
      let took = piece.sound i s.0 s.1 s.2 in
      subst (λ b. Took (phrase b) i j) same.0 (subst (λ j. Took (phrase (f s.0)) i j) same.1
      (record { tokens = took.tokens; rest = took.rest; at = took.at; says = made s.0 i.at took.tokens took.says }))

  pub complete_mapped : (b : B) (at : ℕ) (tokens rest : List Token) → phrase b at tokens → begins piece.more rest ≡ false → (f <$> piece.read) (input at (tokens ++ rest)) ≡ Some (b, input (at + length tokens) rest)
  complete_mapped b at tokens rest says stops =
      let (a, is, says_a) = back b at tokens says in
      bind_is (piece.read (input at (tokens ++ rest))) (λ a. pure (f a)) a (input (at + length tokens) rest) (Some (b, input (at + length tokens) rest))
      (piece.complete a at tokens rest says_a stops) (ap (λ b. Some (b, input (at + length tokens) rest)) is)

  abbrev pub mapped : Piece B
  mapped = record {
    phrase = phrase;
    read = f <$> piece.read;
    first = piece.first;
    empty = piece.empty;
    more = piece.more;
    begun = begun_mapped;
    sound = sound_mapped;
    complete = complete_mapped;
  }

-- ---- parts that may be left out

module _ {A : Type 0} (piece : Piece A) (kind : Lexeme)
    (filled : piece.empty ≡ false) (only : (other : Lexeme) → piece.first other ≡ true → same_lexeme other kind ≡ true) where
  abbrev is_kind : Lexeme → Bool
  is_kind other = same_lexeme other kind

  pub begun_option : (a : Option A) (at : ℕ) (tokens : List Token) → maybe piece.phrase a at tokens → (begins is_kind tokens ≡ true) ⊎ ((tokens ≡ []) × (true ≡ true))
  begun_option None at tokens says = inr (says, refl)
  begun_option (Some a) at tokens says = by (piece.begun a at tokens says) where
    at_front : (tokens : List Token) → begins piece.first tokens ≡ true → begins is_kind tokens ≡ true
    at_front [] e = absurd (cc e)
    at_front (here ∷ rest) e = only (lexeme_of here) e

    by : (begins piece.first tokens ≡ true) ⊎ ((tokens ≡ []) × (piece.empty ≡ true)) → (begins is_kind tokens ≡ true) ⊎ ((tokens ≡ []) × (true ≡ true))
    by (inl first) = inl (at_front tokens first)
    by (inr none) = inr (none.0, refl)

  not_empty : (a : A) (at : ℕ) → piece.phrase a at [] → ⊥
  not_empty a at says = by (piece.begun a at [] says) where
    by : (begins piece.first [] ≡ true) ⊎ ((◌≡◌ {A = List Token} [] []) × (piece.empty ≡ true)) → ⊥
    by (inl first) = absurd (cc first)
    by (inr none) = absurd (cc (filled, none.1))

  took_none : (i : Input) (a : Option A) (j : Input) → ◌≡◌ {A = Option (Option A × Input)} (Some (None, i)) (Some (a, j)) → Took (maybe piece.phrase a) i j
  took_none i a j e =
      let same = some_pair_parts None a i j e in
      subst (λ a. Took (maybe piece.phrase a) i j) same.0 (subst (λ j. Took nothing i j) same.1 (record { tokens = []; rest = refl; at = grind (arith, common_steps); says = refl }))

  pub sound_option : (i : Input) (a : Option A) (j : Input) → option_if kind piece.read i ≡ Some (a, j) → Took (maybe piece.phrase a) i j
  sound_option i a j e = by (sees kind i) refl where
    found : (Some <$> piece.read) i ≡ Some (a, j) → Took (maybe piece.phrase a) i j
    found e =
        let s = bind_some (piece.read i) (λ a. pure (Some a)) a j e in
        let same = some_pair_parts (Some s.0) a s.1 j s.3 in
        subst (λ a. Took (maybe piece.phrase a) i j) same.0 (subst (λ j. Took (piece.phrase s.0) i j) same.1 (piece.sound i s.0 s.1 s.2))

    by : (there : Bool) → sees kind i ≡ there → Took (maybe piece.phrase a) i j
    by true there = found (sym (ap (λ there. if there then (Some <$> piece.read) i else Some (None, i)) there) ∙ e)
    by false there = took_none i a j (sym (ap (λ there. if there then (Some <$> piece.read) i else Some (None, i)) there) ∙ e)

  pub complete_option : (a : Option A) (at : ℕ) (tokens rest : List Token) → maybe piece.phrase a at tokens → begins (λ other. is_kind other || piece.more other) rest ≡ false
      → option_if kind piece.read (input at (tokens ++ rest)) ≡ Some (a, input (at + length tokens) rest)
  unfolding sees
  complete_option None at tokens rest says stops =
      let unseen = (begins_or is_kind piece.more rest stops).0 in
      let here = ap (λ there. if there then (Some <$> piece.read) (input at rest) else Some (None, input at rest)) unseen in
      let placed_at = here ∙ ap (λ place. Some (None, input place rest)) (sym (add-zero at)) in
      subst (λ tokens. option_if kind piece.read (input at (tokens ++ rest)) ≡ Some (None, input (at + length tokens) rest)) (sym says) placed_at
  complete_option (Some a) at tokens rest says stops = by (begun_option (Some a) at tokens says) where
    read_some : (Some <$> piece.read) (input at (tokens ++ rest)) ≡ Some (Some a, input (at + length tokens) rest)
    read_some = bind_is (piece.read (input at (tokens ++ rest))) (λ a. pure (Some a)) a (input (at + length tokens) rest) (Some (Some a, input (at + length tokens) rest))
        (piece.complete a at tokens rest says (begins_or is_kind piece.more rest stops).1) refl

    none : (tokens ≡ []) → ⊥
    none e = not_empty a at (subst (λ tokens. piece.phrase a at tokens) e says)

    by : (begins is_kind tokens ≡ true) ⊎ ((tokens ≡ []) × (true ≡ true)) → option_if kind piece.read (input at (tokens ++ rest)) ≡ Some (Some a, input (at + length tokens) rest)
    by (inl first) = ap (λ there. if there then (Some <$> piece.read) (input at (tokens ++ rest)) else Some (None, input at (tokens ++ rest))) (begins_after is_kind tokens rest first) ∙ read_some
    by (inr last) = absurd (none last.0)

  abbrev pub option : Piece (Option A)
  option = record {
    phrase = maybe piece.phrase;
    read = option_if kind piece.read;
    first = is_kind;
    empty = true;
    more = λ other. is_kind other || piece.more other;
    begun = begun_option;
    sound = sound_option;
    complete = complete_option;
  }

-- ---- the same reader written otherwise

abbrev pub reread : {A : Type 0} (piece : Piece A) (read : Reader A) → ((i : Input) → read i ≡ piece.read i) → Piece A
reread piece read same = record {
  phrase = piece.phrase;
  read = read;
  first = piece.first;
  empty = piece.empty;
  more = piece.more;
  begun = piece.begun;
  sound = λ i a j e. piece.sound i a j (sym (same i) ∙ e);
  complete = λ a at tokens rest says stops. same (input at (tokens ++ rest)) ∙ piece.complete a at tokens rest says stops;
}

abbrev pair_with : {A B : Type 0} → A → B → Reader (A × B)
pair_with a b = pure (a, b)

second_of : {N A : Type 0} (n : N) (found : Outcome A) → found ≡ and_then (and_then found (pair_with n)) (λ both. pure both.1)
second_of n (Some found) = refl
second_of n None = refl

pub second_is : {N A : Type 0} (found : Outcome N) (read : Reader A) → and_then found (λ n. read) ≡ and_then (and_then found (λ a. read >>= pair_with a)) (λ both. pure both.1)
second_is (Some found) read = second_of found.0 (read found.1)
second_is None read = refl

first_of_both : {N A : Type 0} (a : A) (found : Outcome N) → and_then found (λ n. pure a) ≡ and_then (and_then found (pair_with a)) (λ both. pure both.0)
first_of_both a (Some found) = refl
first_of_both a None = refl

pub first_is : {N A : Type 0} (found : Outcome A) (read : Reader N) → and_then found (λ a. read >>= (λ n. pure a)) ≡ and_then (and_then found (λ a. read >>= pair_with a)) (λ both. pure both.0)
first_is (Some found) read = first_of_both found.0 (read found.1)
first_is None read = refl

-- ---- words and marks that a value doesn't keep

-- a token's number that isn't kept
module _ {N A : Type 0} (ignored : Piece N) (phrase : Phrase)
    (made : (n : N) (at : ℕ) (tokens : List Token) → ignored.phrase n at tokens → phrase at tokens)
    (back : (at : ℕ) (tokens : List Token) → phrase at tokens → (n : N) × ignored.phrase n at tokens)
    (piece : Piece A) where
  pub drop_first : (both : N × A) (at : ℕ) (tokens : List Token) → (ignored.phrase both.0 · piece.phrase both.1) at tokens → (phrase · piece.phrase both.1) at tokens
  drop_first both at tokens (before, after, split, says, says_other) = (before, after, split, made both.0 at before says, says_other)

  pub add_first : (a : A) (at : ℕ) (tokens : List Token) → (phrase · piece.phrase a) at tokens → (both : N × A) × (both.1 ≡ a) × (ignored.phrase both.0 · piece.phrase both.1) at tokens
  add_first a at tokens (before, after, split, says, says_other) = let (n, says_n) = back at before says in ((n, a), refl, (before, after, split, says_n, says_other))

  abbrev pub after_ignored : Apart piece.first ignored.more → Piece A
  after_ignored apart = reread (mapped (seq ignored piece apart) (λ both. both.1) (λ a. phrase · piece.phrase a) drop_first add_first)
      (ignored.read >> piece.read) (λ i. second_is (ignored.read i) piece.read)

  pub drop_last : (both : A × N) (at : ℕ) (tokens : List Token) → (piece.phrase both.0 · ignored.phrase both.1) at tokens → (piece.phrase both.0 · phrase) at tokens
  drop_last both at tokens (before, after, split, says, says_other) = (before, after, split, says, made both.1 (at + length before) after says_other)

  pub add_last : (a : A) (at : ℕ) (tokens : List Token) → (piece.phrase a · phrase) at tokens → (both : A × N) × (both.0 ≡ a) × (piece.phrase both.0 · ignored.phrase both.1) at tokens
  add_last a at tokens (before, after, split, says, says_other) = let (n, says_n) = back (at + length before) after says_other in ((a, n), refl, (before, after, split, says, says_n))

  abbrev pub before_ignored : Apart ignored.first piece.more → Piece A
  before_ignored apart = reread (mapped (seq piece ignored apart) (λ both. both.0) (λ a. piece.phrase a · phrase) drop_last add_last)
      (piece.read >>= (λ a. ignored.read >> pure a)) (λ i. first_is (piece.read i) ignored.read)
