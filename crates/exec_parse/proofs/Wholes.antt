-- Readers of all tokens that are left.
use Rattle.std.proofs.Common.{◌≡◌, refl, sym, ◌∙◌, ap, subst, ℕ, ◌+◌, Bool, true, false, List, [], ◌++◌, length, Some, if◌then◌else◌}
use Rattle.std.proofs.lemmas.Option.{some_pair_parts}
use Rattle.std.proofs.lemmas.List.{append-nil}
use Rattle.ftn_tree.specs.declared.token.Token.{Token}
use Rattle.ftn_tree.specs.Phrases.{Phrase, ◌·◌}
use Rattle.ftn_tree.proofs.PhraseLaws.{placed}
use Rattle.expr_parse.specs.steps.Input.{Input, input, Reader, Outcome, ◌>>=◌, pure}
use Rattle.expr_parse.specs.steps.Combinators.{◌<$>◌}
use Rattle.expr_parse.proofs.Pieces.{Piece, Took, begins, bind_some, bind_is}

-- what is read to the end is a phrase of all tokens
abbrev pub Sound : {A : Type 0} → Reader A → (A → Phrase) → Type 0
Sound {A} read phrase = (at : ℕ) (tokens : List Token) (a : A) (j : Input) → read (input at tokens) ≡ Some (a, j) → j.rest ≡ [] → phrase a at tokens

-- the reader reads all these tokens, and gives that
abbrev pub Reads : {A : Type 0} → Reader A → A → ℕ → List Token → Type 0
Reads read a at tokens = read (input at tokens) ≡ Some (a, input (at + length tokens) [])

-- a phrase of all tokens is read to the end
abbrev pub Complete : {A : Type 0} → Reader A → (A → Phrase) → Type 0
Complete {A} read phrase = (a : A) (at : ℕ) (tokens : List Token) → phrase a at tokens → Reads read a at tokens

-- one of two readers, which gave something
pub either_way : {A : Type 0} {R : Type 0} (test : Bool) (one other found : Outcome A)
    → (if test then one else other) ≡ found → (test ≡ true → one ≡ found → R) → (test ≡ false → other ≡ found → R) → R
either_way true one other found e f g = f refl e
either_way false one other found e f g = g refl e

-- where nothing is left, all was taken
pub took_all : (phrase : Phrase) (at : ℕ) (tokens : List Token) (j : Input) → Took phrase (input at tokens) j → j.rest ≡ [] → phrase at tokens
took_all phrase at tokens j took end = subst (λ tokens. phrase at tokens) (sym (took.rest ∙ ap (λ rest. took.tokens ++ rest) end ∙ append-nil took.tokens)) took.says

module _ {A : Type 0} (piece : Piece A) where
  pub all_sound : Sound piece.read piece.phrase
  all_sound at tokens a j e end = took_all (piece.phrase a) at tokens j (piece.sound (input at tokens) a j e) end

  pub all_complete : Complete piece.read piece.phrase
  all_complete a at tokens says =
      subst (λ all. piece.read (input at all) ≡ Some (a, input (at + length tokens) [])) (append-nil tokens) (piece.complete a at tokens [] says refl)

-- values made of what is read
module _ {A B : Type 0} (read : Reader A) (f : A → B) where
  pub made_sound : (phrase : A → Phrase) (made : B → Phrase) → Sound read phrase → ((a : A) (at : ℕ) (tokens : List Token) → phrase a at tokens → made (f a) at tokens) → Sound (f <$> read) made
  made_sound phrase made sound makes at tokens b j e end =
      let (a, k, found, gives) = bind_some (read (input at tokens)) (λ a. pure (f a)) b j e in
      let same = some_pair_parts (f a) b k j gives in
      subst (λ b. made b at tokens) same.0 (makes a at tokens (sound at tokens a k found (ap (λ i. i.rest) same.1 ∙ end)))

  pub made_complete : (a : A) (at : ℕ) (tokens : List Token) → Reads read a at tokens → Reads (f <$> read) (f a) at tokens
  made_complete a at tokens e = bind_is (read (input at tokens)) (λ a. pure (f a)) a (input (at + length tokens) []) (Some (f a, input (at + length tokens) [])) e refl

-- a piece, and then all the rest
module _ {A B : Type 0} (piece : Piece A) (next : A → Reader B) where
  pub then_sound : (phrase : A → B → Phrase) → ((a : A) → Sound (next a) (phrase a))
      → (at : ℕ) (tokens : List Token) (b : B) (j : Input) → (piece.read >>= next) (input at tokens) ≡ Some (b, j) → j.rest ≡ [] → (a : A) × (piece.phrase a · phrase a b) at tokens
  then_sound phrase sound at tokens b j e end =
      let (a, k, found, gives) = bind_some (piece.read (input at tokens)) next b j e in
      let took = piece.sound (input at tokens) a k found in
      (a, (took.tokens, k.rest, took.rest, took.says, subst (λ place. phrase a b place k.rest) took.at (sound a k.at k.rest b j gives end)))

  pub then_complete : (a : A) (b : B) (at : ℕ) (before after : List Token) → piece.phrase a at before → begins piece.more after ≡ false → Reads (next a) b (at + length before) after
      → Reads (piece.read >>= next) b at (before ++ after)
  then_complete a b at before after says stops later =
      bind_is (piece.read (input at (before ++ after))) next a (input (at + length before) after) (Some (b, input (at + length (before ++ after)) []))
      (piece.complete a at before after says stops) (later ∙ ap (λ place. Some (b, input place [])) (placed at before after))

-- what a value was made of
pub made_here : {A B : Type 0} (read : Reader A) (f : A → B) (at : ℕ) (tokens : List Token) (b : B) (j : Input) → (f <$> read) (input at tokens) ≡ Some (b, j) → j.rest ≡ []
    → (a : A) × (k : Input) × (read (input at tokens) ≡ Some (a, k)) × (k.rest ≡ []) × (f a ≡ b)
made_here read f at tokens b j e end =
    let (a, k, found, gives) = bind_some (read (input at tokens)) (λ a. pure (f a)) b j e in
    let same = some_pair_parts (f a) b k j gives in
    (a, k, found, ap (λ i. i.rest) same.1 ∙ end, same.0)
