-- Pieces that choose, and pieces that test what they have read.
use Rattle.std.proofs.Common.{◌≡◌, refl, sym, ◌∙◌, ap, subst, ℕ, ◌+◌, Bool, true, false, ◌||◌, List, [], ◌++◌, length, Option, Some, None, ◌⊎◌, inl, inr, if◌then◌else◌}
use Rattle.std.proofs.lemmas.Bool.{or_left, or_right}
use Rattle.std.proofs.lemmas.Option.{some_pair_parts}
use Rattle.ftn_tree.specs.declared.token.Token.{Token}
use Rattle.ftn_tree.specs.declared.lexeme.Lexeme.{Lexeme}
use Rattle.ftn_tree.specs.Phrases.{Phrase, provided}
use Rattle.expr_parse.specs.steps.Input.{Input, input, Reader, Outcome, and_then, pure, refuse}
use Rattle.expr_parse.specs.steps.Combinators.{◌<$>◌}
use Rattle.expr_parse.proofs.Pieces.{Piece, Took, begins, begins_or, bind_some, bind_is, begins_left, begins_right}
use Rattle.spec_parse.specs.steps.Choices.{choose, checked, numbered, picked, given}

-- ---- one or the other

module _ {A B C : Type 0} (test : Input → Bool) (one : Piece A) (f : A → C) (other : Piece B) (g : B → C) (phrase : C → Phrase)
    (made_one : (a : A) (at : ℕ) (tokens : List Token) → one.phrase a at tokens → phrase (f a) at tokens)
    (made_other : (b : B) (at : ℕ) (tokens : List Token) → other.phrase b at tokens → phrase (g b) at tokens)
    (back : (c : C) (at : ℕ) (tokens : List Token) → phrase c at tokens → ((a : A) × (f a ≡ c) × one.phrase a at tokens) ⊎ ((b : B) × (g b ≡ c) × other.phrase b at tokens))
    (extra : Lexeme → Bool)
    (is_one : (a : A) (at : ℕ) (tokens rest : List Token) → one.phrase a at tokens → begins one.more rest ≡ false → test (input at (tokens ++ rest)) ≡ true)
    (is_other : (b : B) (at : ℕ) (tokens rest : List Token) → other.phrase b at tokens → begins other.more rest ≡ false → begins extra rest ≡ false → test (input at (tokens ++ rest)) ≡ false) where
  abbrev either_first : Lexeme → Bool
  either_first kind = one.first kind || other.first kind

  abbrev either_more : Lexeme → Bool
  either_more kind = one.more kind || (other.more kind || extra kind)

  abbrev Begun : List Token → Type 0
  Begun tokens = (begins (λ kind. one.first kind || other.first kind) tokens ≡ true) ⊎ ((tokens ≡ []) × ((one.empty || other.empty) ≡ true))

  begun_one : (tokens : List Token) → (begins one.first tokens ≡ true) ⊎ ((tokens ≡ []) × (one.empty ≡ true)) → Begun tokens
  begun_one tokens (inl e) = inl (begins_left one.first other.first tokens e)
  begun_one tokens (inr e) = inr (e.0, or_left one.empty other.empty e.1)

  begun_other : (tokens : List Token) → (begins other.first tokens ≡ true) ⊎ ((tokens ≡ []) × (other.empty ≡ true)) → Begun tokens
  begun_other tokens (inl e) = inl (begins_right one.first other.first tokens e)
  begun_other tokens (inr e) = inr (e.0, or_right one.empty other.empty e.1)

  pub begun_choice : (c : C) (at : ℕ) (tokens : List Token) → phrase c at tokens → Begun tokens
  begun_choice c at tokens says = by (back c at tokens says) where
    by : ((a : A) × (f a ≡ c) × one.phrase a at tokens) ⊎ ((b : B) × (g b ≡ c) × other.phrase b at tokens) → Begun tokens
    by (inl (a, is, says)) = begun_one tokens (one.begun a at tokens says)
    by (inr (b, is, says)) = begun_other tokens (other.begun b at tokens says)

  chosen : Bool → Reader C
  chosen first i = if first then (f <$> one.read) i else (g <$> other.read) i

  pub sound_choice : (i : Input) (c : C) (j : Input) → choose test (f <$> one.read) (g <$> other.read) i ≡ Some (c, j) → Took (phrase c) i j
  sound_choice i c j e = by (test i) refl where
    by : (first : Bool) → test i ≡ first → Took (phrase c) i j
    by true is =
        let (a, k, read, gives) = bind_some (one.read i) (λ a. pure (f a)) c j (sym (ap (λ first. if first then (f <$> one.read) i else (g <$> other.read) i) is) ∙ e) in
        let same = some_pair_parts (f a) c k j gives in
        let took = one.sound i a k read in
        subst (λ c. Took (phrase c) i j) same.0 (subst (λ j. Took (phrase (f a)) i j) same.1
        (record { tokens = took.tokens; rest = took.rest; at = took.at; says = made_one a i.at took.tokens took.says }))
    by false is =
        let (b, k, read, gives) = bind_some (other.read i) (λ b. pure (g b)) c j (sym (ap (λ first. if first then (f <$> one.read) i else (g <$> other.read) i) is) ∙ e) in
        let same = some_pair_parts (g b) c k j gives in
        let took = other.sound i b k read in
        subst (λ c. Took (phrase c) i j) same.0 (subst (λ j. Took (phrase (g b)) i j) same.1
        (record { tokens = took.tokens; rest = took.rest; at = took.at; says = made_other b i.at took.tokens took.says }))

  pub complete_choice : (c : C) (at : ℕ) (tokens rest : List Token) → phrase c at tokens → begins (λ kind. one.more kind || (other.more kind || extra kind)) rest ≡ false
      → choose test (f <$> one.read) (g <$> other.read) (input at (tokens ++ rest)) ≡ Some (c, input (at + length tokens) rest)
  complete_choice c at tokens rest says stops = by (back c at tokens says) where
    stop : (begins one.more rest ≡ false) × (begins (λ kind. other.more kind || extra kind) rest ≡ false)
    stop = begins_or one.more (λ kind. other.more kind || extra kind) rest stops

    stop_other : (begins other.more rest ≡ false) × (begins extra rest ≡ false)
    stop_other = begins_or other.more extra rest stop.1

    here : Input
    here = input at (tokens ++ rest)

    by : ((a : A) × (f a ≡ c) × one.phrase a at tokens) ⊎ ((b : B) × (g b ≡ c) × other.phrase b at tokens)
        → choose test (f <$> one.read) (g <$> other.read) (input at (tokens ++ rest)) ≡ Some (c, input (at + length tokens) rest)
    by (inl (a, is, says)) =
        ap (λ first. if first then (f <$> one.read) (input at (tokens ++ rest)) else (g <$> other.read) (input at (tokens ++ rest))) (is_one a at tokens rest says stop.0)
        ∙ bind_is (one.read (input at (tokens ++ rest))) (λ a. pure (f a)) a (input (at + length tokens) rest) (Some (c, input (at + length tokens) rest))
        (one.complete a at tokens rest says stop.0) (ap (λ c. Some (c, input (at + length tokens) rest)) is)
    by (inr (b, is, says)) =
        ap (λ first. if first then (f <$> one.read) (input at (tokens ++ rest)) else (g <$> other.read) (input at (tokens ++ rest))) (is_other b at tokens rest says stop_other.0 stop_other.1)
        ∙ bind_is (other.read (input at (tokens ++ rest))) (λ b. pure (g b)) b (input (at + length tokens) rest) (Some (c, input (at + length tokens) rest))
        (other.complete b at tokens rest says stop_other.0) (ap (λ c. Some (c, input (at + length tokens) rest)) is)

  abbrev pub choice : Piece C
  choice = record {
    phrase = phrase;
    read = choose test (f <$> one.read) (g <$> other.read);
    first = λ kind. one.first kind || other.first kind;
    empty = one.empty || other.empty;
    more = λ kind. one.more kind || (other.more kind || extra kind);
    begun = begun_choice;
    sound = sound_choice;
    complete = complete_choice;
  }

-- ---- what passes a test

module _ {A : Type 0} (test : A → Bool) (piece : Piece A) where
  pub begun_checked : (a : A) (at : ℕ) (tokens : List Token) → provided (test a) (piece.phrase a) at tokens → (begins piece.first tokens ≡ true) ⊎ ((tokens ≡ []) × (piece.empty ≡ true))
  begun_checked a at tokens (passes, says) = piece.begun a at tokens says

  abbrev passed : A → Reader A
  passed a = if test a then pure a else refuse

  pub sound_checked : (i : Input) (a : A) (j : Input) → checked test piece.read i ≡ Some (a, j) → Took (provided (test a) (piece.phrase a)) i j
  sound_checked i a j e = by (bind_some (piece.read i) (λ a. if test a then pure a else refuse) a j e) where
    took_it : (b : A) (k : Input) → piece.read i ≡ Some (b, k) → test b ≡ true → ◌≡◌ {A = Option (A × Input)} (Some (b, k)) (Some (a, j)) → Took (provided (test a) (piece.phrase a)) i j
    took_it b k read passes gives =
        let same = some_pair_parts b a k j gives in
        let took = piece.sound i b k read in
        subst (λ a. Took (provided (test a) (piece.phrase a)) i j) same.0 (subst (λ j. Took (provided (test b) (piece.phrase b)) i j) same.1
        (record { tokens = took.tokens; rest = took.rest; at = took.at; says = (passes, took.says) }))

    by : (b : A) × (k : Input) × (piece.read i ≡ Some (b, k)) × ((if test b then pure b else refuse) k ≡ Some (a, j)) → Took (provided (test a) (piece.phrase a)) i j
    by (b, k, read, gives) = by_test (test b) refl gives where
      by_test : (passes : Bool) → test b ≡ passes → (if test b then pure b else refuse) k ≡ Some (a, j) → Took (provided (test a) (piece.phrase a)) i j
      by_test true is gives = took_it b k read is (sym (ap (λ passes. (if passes then pure b else refuse) k) is) ∙ gives)
      by_test false is gives = absurd (cc (sym (ap (λ passes. (if passes then pure {A = A} b else refuse) k) is) ∙ gives))

  pub complete_checked : (a : A) (at : ℕ) (tokens rest : List Token) → provided (test a) (piece.phrase a) at tokens → begins piece.more rest ≡ false
      → checked test piece.read (input at (tokens ++ rest)) ≡ Some (a, input (at + length tokens) rest)
  complete_checked a at tokens rest (passes, says) stops =
      bind_is (piece.read (input at (tokens ++ rest))) (λ a. if test a then pure a else refuse) a (input (at + length tokens) rest) (Some (a, input (at + length tokens) rest))
      (piece.complete a at tokens rest says stops) (ap (λ passes. (if passes then pure a else refuse) (input (at + length tokens) rest)) passes)

  abbrev pub checked_piece : Piece A
  checked_piece = record {
    phrase = λ a. provided (test a) (piece.phrase a);
    read = checked test piece.read;
    first = piece.first;
    empty = piece.empty;
    more = piece.more;
    begun = begun_checked;
    sound = sound_checked;
    complete = complete_checked;
  }

-- ---- what has a number

module _ {A : Type 0} (piece : Piece A) where
  abbrev pub numbered_phrase : ℕ × A → Phrase
  numbered_phrase both at tokens = (both.0 ≡ at) × piece.phrase both.1 at tokens

  pub begun_numbered : (both : ℕ × A) (at : ℕ) (tokens : List Token) → numbered_phrase both at tokens → (begins piece.first tokens ≡ true) ⊎ ((tokens ≡ []) × (piece.empty ≡ true))
  begun_numbered both at tokens (is, says) = piece.begun both.1 at tokens says

  pub sound_numbered : (i : Input) (both : ℕ × A) (j : Input) → numbered piece.read i ≡ Some (both, j) → Took (numbered_phrase both) i j
  sound_numbered i both j e =
      let (a, k, read, gives) = bind_some (piece.read i) (λ a. pure (i.at, a)) both j e in
      let same = some_pair_parts (i.at, a) both k j gives in
      let took = piece.sound i a k read in
      subst (λ both. Took (numbered_phrase both) i j) same.0 (subst (λ j. Took (numbered_phrase (i.at, a)) i j) same.1
      (record { tokens = took.tokens; rest = took.rest; at = took.at; says = (refl, took.says) }))

  pub complete_numbered : (both : ℕ × A) (at : ℕ) (tokens rest : List Token) → numbered_phrase both at tokens → begins piece.more rest ≡ false
      → numbered piece.read (input at (tokens ++ rest)) ≡ Some (both, input (at + length tokens) rest)
  complete_numbered both at tokens rest (is, says) stops =
      bind_is (piece.read (input at (tokens ++ rest))) (λ a. pure (at, a)) both.1 (input (at + length tokens) rest) (Some (both, input (at + length tokens) rest))
      (piece.complete both.1 at tokens rest says stops) (ap (λ number. Some ((number, both.1), input (at + length tokens) rest)) (sym is))

  abbrev pub numbered_piece : Piece (ℕ × A)
  numbered_piece = record {
    phrase = numbered_phrase;
    read = numbered piece.read;
    first = piece.first;
    empty = piece.empty;
    more = piece.more;
    begun = begun_numbered;
    sound = sound_numbered;
    complete = complete_numbered;
  }

-- ---- what is picked

module _ {A B : Type 0} (pick : A → Option B) (piece : Piece A) (phrase : B → Phrase)
    (made : (a : A) (b : B) (at : ℕ) (tokens : List Token) → pick a ≡ Some b → piece.phrase a at tokens → phrase b at tokens)
    (back : (b : B) (at : ℕ) (tokens : List Token) → phrase b at tokens → (a : A) × (pick a ≡ Some b) × piece.phrase a at tokens) where
  pub begun_picked : (b : B) (at : ℕ) (tokens : List Token) → phrase b at tokens → (begins piece.first tokens ≡ true) ⊎ ((tokens ≡ []) × (piece.empty ≡ true))
  begun_picked b at tokens says = let (a, is, says_a) = back b at tokens says in piece.begun a at tokens says_a

  pub sound_picked : (i : Input) (b : B) (j : Input) → picked pick piece.read i ≡ Some (b, j) → Took (phrase b) i j
  sound_picked i b j e = by (bind_some (piece.read i) (λ a. given (pick a)) b j e) where
    by : (a : A) × (k : Input) × (piece.read i ≡ Some (a, k)) × (given (pick a) k ≡ Some (b, j)) → Took (phrase b) i j
    by (a, k, read, gives) = by_pick (pick a) refl gives where
      by_pick : (got : Option B) → pick a ≡ got → given (pick a) k ≡ Some (b, j) → Took (phrase b) i j
      by_pick None is gives = absurd (cc (sym (ap (λ got. given {A = B} got k) is) ∙ gives))
      by_pick (Some c) is gives =
          let same = some_pair_parts c b k j (sym (ap (λ got. given got k) is) ∙ gives) in
          let took = piece.sound i a k read in
          subst (λ b. Took (phrase b) i j) same.0 (subst (λ j. Took (phrase c) i j) same.1
          (record { tokens = took.tokens; rest = took.rest; at = took.at; says = made a c i.at took.tokens is took.says }))

  pub complete_picked : (b : B) (at : ℕ) (tokens rest : List Token) → phrase b at tokens → begins piece.more rest ≡ false
      → picked pick piece.read (input at (tokens ++ rest)) ≡ Some (b, input (at + length tokens) rest)
  complete_picked b at tokens rest says stops =
      let (a, is, says_a) = back b at tokens says in
      bind_is (piece.read (input at (tokens ++ rest))) (λ a. given (pick a)) a (input (at + length tokens) rest) (Some (b, input (at + length tokens) rest))
      (piece.complete a at tokens rest says_a stops) (ap (λ got. given got (input (at + length tokens) rest)) is)

  abbrev pub picked_piece : Piece B
  picked_piece = record {
    phrase = phrase;
    read = picked pick piece.read;
    first = piece.first;
    empty = piece.empty;
    more = piece.more;
    begun = begun_picked;
    sound = sound_picked;
    complete = complete_picked;
  }

pub plain : {A : Type 0} (found : Outcome A) → found ≡ and_then found (λ a. pure a)
plain (Some found) = refl
plain None = refl

-- what the other reads needn't be made into something else
pub chosen_plain : {A : Type 0} (test : Input → Bool) (one other : Reader A) (i : Input) → choose test one other i ≡ choose test one ((λ a. a) <$> other) i
chosen_plain test one other i = ap (λ found. if test i then one i else found) (plain (other i))
