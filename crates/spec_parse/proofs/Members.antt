-- The members of a group of COMMON are read as they are written.
use Rattle.std.proofs.Common.{◌≡◌, refl, sym, ◌∙◌, ap, subst, arith, ℕ, zero, suc, ◌+◌, ◌≤◌, Bool, true, false, ◌||◌, ◌&&◌, not, List, [], ◌∷◌, ◌++◌, length, Option, Some, append_assoc, ◌⊎◌, inl, inr, if◌then◌else◌}
use Rattle.std.proofs.lemmas.Grind.{common_steps}
use Rattle.std.proofs.lemmas.Option.{some_pair_parts}
use Rattle.std.specs.Cmp.{first_so}
use Rattle.std.proofs.lemmas.Bool.{and_from, not_from_false}
use Rattle.ftn_tree.specs.declared.token.Token.{Token}
use Rattle.ftn_tree.specs.declared.parts.BoundPair.{BoundPair}
use Rattle.ftn_tree.specs.declared.parts.CommonMember.{CommonMember}
use Rattle.ftn_tree.specs.declared.lexeme.Lexeme.{Lexeme}
use Rattle.ftn_tree.specs.declared.lexeme.Lexeme.TheVariants.{Word, Comma, Divide, Concat, Open}
use Rattle.ftn_tree.specs.Lexemes.{lexeme_of, same_lexeme}
use Rattle.ftn_tree.specs.Phrases.{nothing, ◌·◌, mark, commas, after_commas}
use Rattle.ftn_tree.specs.SpecificationForms as form
use Rattle.expr_parse.specs.steps.Input.{Input, input, Reader, ◌>>=◌, after, after_if, eat, sees, peek_second}
use Rattle.expr_parse.proofs.Pieces.{Piece, Took, Apart, begins, bind_some, bind_is, took_both, seq, mapped, reread}
use Rattle.expr_parse.proofs.Tokens.{only, apart_none, name_piece, is_same}
use Rattle.expr_parse.proofs.Lists.{took_mark, took_alone}
use Rattle.expr_parse.proofs.AllKinds.{apart}
use Rattle.expr_parse.proofs.Operands.{ReadsExpressions}
use Rattle.spec_parse.specs.steps.Blocks as spec
use Rattle.spec_parse.specs.steps.Blocks.{member, members, members_from, goes_on, is_slash_at}
use Rattle.spec_parse.proofs.BoundPieces.{maybe_bounds_piece}
use Rattle.expr_parse.proofs.TokenRows.{regrouped, none_left, enough, grown, too_few, after_comma, fewer_later}

-- a mark that begins a block
abbrev pub is_slash : Lexeme → Bool
is_slash kind = only Divide kind || only Concat kind

pub slash_is : (kind : Lexeme) → is_slash_at (Some kind) ≡ is_slash kind
unfolding same_lexeme
slash_is Divide = refl
slash_is Concat = refl
slash_is _ = refl

pub word_no_slash : Apart (only Word) is_slash
unfolding same_lexeme
word_no_slash = apart (only Word) is_slash refl

-- no member can follow these tokens
abbrev pub Stops : List Token → Type 0
Stops rest = (begins (only Open) rest ≡ false) × ((at : ℕ) → goes_on (input at rest) ≡ false)

-- a comma and a name go on
pub comma_goes_on : (comma : Token) (at : ℕ) (later : List Token) → lexeme_of comma ≡ Comma → begins (only Word) later ≡ true → goes_on (input at (comma ∷ later)) ≡ true
unfolding sees peek_second
comma_goes_on comma at [] is e = absurd (cc e)
comma_goes_on comma at (next ∷ later) is e =
    and_from (same_lexeme (lexeme_of comma) Comma) (not (is_slash_at (Some (lexeme_of next)))) (is_same (lexeme_of comma) Comma is)
    (not_from_false (is_slash_at (Some (lexeme_of next))) (slash_is (lexeme_of next) ∙ word_no_slash (lexeme_of next) e))

pub comma_no_open : Apart (only Comma) (only Open)
unfolding same_lexeme
comma_no_open = apart (only Comma) (only Open) refl

module _ (laws : ReadsExpressions) where
  abbrev pub member_parts : Piece (ℕ × Option (List BoundPair))
  member_parts = seq name_piece (maybe_bounds_piece laws) (apart_none (maybe_bounds_piece laws).first)

  abbrev pub member_mapped : Piece CommonMember
  member_mapped = mapped member_parts spec.member_of form.member (λ both at tokens says. says) (λ c at tokens says. ((c.name, c.bounds), refl, says))

  pub member_read : (i : Input) → member i ≡ member_mapped.read i
  unfolding member
  member_read i = refl

  abbrev pub member_piece : Piece CommonMember
  member_piece = reread member_mapped member member_read

  -- ---- sound

  abbrev turn : ℕ → List CommonMember → CommonMember → Reader (List CommonMember)
  turn n found next i = if goes_on i then (eat Comma >>= (λ _. members_from n (found ++ next ∷ []))) i else Some (found ++ next ∷ [], i)

  record Found (found all : List CommonMember) (i j : Input) : Type 0 where
    first : CommonMember
    rest : List CommonMember
    is : all ≡ found ++ first ∷ rest
    took : Took (form.member first · after_commas form.member rest) i j

  sound_from : (n : ℕ) (found all : List CommonMember) (i j : Input) → members_from n found i ≡ Some (all, j) → Found found all i j
  unfolding members_from
  sound_from zero found all i j e = absurd (cc e)
  sound_from (suc n) found all i j e = by_item (λ found k. sound_from n found all k j) (bind_some (member i) (turn n found) all j e) where
    by_item : ((found : List CommonMember) (k : Input) → members_from n found k ≡ Some (all, j) → Found found all k j) → (a : CommonMember) × (k : Input) × (member i ≡ Some (a, k)) × (turn n found a k ≡ Some (all, j)) → Found found all i j
    by_item onward (a, k, read, next) = by (goes_on k) refl where
      onto : (there : Bool) → sees Comma k ≡ there → there ≡ true → members_from n (found ++ a ∷ []) (after_if (sees Comma k) k) ≡ Some (all, j) → Found (found ++ a ∷ []) all (after k) j
      onto true is e gives = onward (found ++ a ∷ []) (after k) (sym (ap (λ there. members_from n (found ++ a ∷ []) (after_if there k)) is) ∙ gives)
      onto false is e gives = absurd (cc e)

      by : (there : Bool) → goes_on k ≡ there → Found found all i j
      by true there =
          let comma = first_so (sees Comma k) (not (is_slash_at (peek_second k))) there in
          let gives = sym (ap (λ there. if there then (eat Comma >>= (λ _. members_from n (found ++ a ∷ []))) k else Some (found ++ a ∷ [], k)) there) ∙ next in
          let later = onto (sees Comma k) refl comma gives in
          record {
            first = a;
            rest = later.first ∷ later.rest;
            is = later.is ∙ regrouped found a later.first later.rest;
            took = took_both (form.member a) (mark Comma · form.member later.first · after_commas form.member later.rest) i k j (member_piece.sound i a k read)
                (took_both (mark Comma) (form.member later.first · after_commas form.member later.rest) k (after k) j (took_mark Comma k comma) later.took);
          }
      by false there =
          let same = some_pair_parts (found ++ a ∷ []) all k j (sym (ap (λ there. if there then (eat Comma >>= (λ _. members_from n (found ++ a ∷ []))) k else Some (found ++ a ∷ [], k)) there) ∙ next) in
          record {
            first = a;
            rest = [];
            is = sym same.0;
            took = subst (λ j. Took (form.member a · nothing) i j) same.1 (took_alone (form.member a) i k (member_piece.sound i a k read));
          }

  members_taken : (all first_rest : List CommonMember) (first : CommonMember) (i j : Input) → all ≡ first ∷ first_rest → Took (form.member first · after_commas form.member first_rest) i j → Took (commas form.member all) i j
  members_taken all first_rest first i j is took = subst (λ all. Took (commas form.member all) i j) (sym is)
      (record { tokens = took.tokens; rest = took.rest; at = took.at; says = took.says })

  pub members_sound : (i : Input) (all : List CommonMember) (j : Input) → members i ≡ Some (all, j) → Took (commas form.member all) i j
  members_sound i all j e = let found = sound_from (length i.rest) [] all i j e in members_taken all found.rest found.first i j found.is found.took

  -- ---- complete

  nonempty : (a : CommonMember) (at : ℕ) (tokens : List Token) → form.member a at tokens → 1 ≤ length tokens
  nonempty a at tokens says = by tokens (member_piece.begun a at tokens says) where
    by : (tokens : List Token) → (begins member_piece.first tokens ≡ true) ⊎ ((tokens ≡ []) × (member_piece.empty ≡ true)) → 1 ≤ length tokens
    by [] (inl e) = absurd (cc e)
    by (here ∷ tokens) (inl e) = grind (arith, common_steps)
    by tokens (inr none) = absurd (cc none.1)

  abbrev Reads : ℕ → List CommonMember → List CommonMember → ℕ → List Token → List Token → Type 0
  Reads n found items at tokens rest = members_from n found (input at (tokens ++ rest)) ≡ Some (found ++ items, input (at + length tokens) rest)

  no_more : (rest : List Token) → begins (only Open) rest ≡ false → begins member_piece.more rest ≡ false
  no_more [] e = refl
  no_more (here ∷ rest) e = by (only Open (lexeme_of here)) e where
    by : (opens : Bool) → opens ≡ false → ((opens || false) || (false && false)) ≡ false
    by false e = refl
    by true e = e

  complete_last : (n : ℕ) (found : List CommonMember) (a : CommonMember) (at : ℕ) (tokens rest : List Token) → form.member a at tokens → Stops rest → Reads (suc n) found (a ∷ []) at tokens rest
  unfolding members_from
  complete_last n found a at tokens rest says stops =
      bind_is (member (input at (tokens ++ rest))) (turn n found) a (input (at + length tokens) rest) (Some (found ++ a ∷ [], input (at + length tokens) rest))
      (member_piece.complete a at tokens rest says (no_more rest stops.0))
      (ap (λ there. if there then (eat Comma >>= (λ _. members_from n (found ++ a ∷ []))) (input (at + length tokens) rest) else Some (found ++ a ∷ [], input (at + length tokens) rest)) (stops.1 (at + length tokens)))

  complete_next : (n : ℕ) (found : List CommonMember) (a b : CommonMember) (more : List CommonMember) (at : ℕ) (before later rest : List Token) (comma : Token) → form.member a at before → lexeme_of comma ≡ Comma
      → begins (only Word) (later ++ rest) ≡ true → Reads n (found ++ a ∷ []) (b ∷ more) ((at + length before) + 1) later rest → Reads (suc n) found (a ∷ b ∷ more) at (before ++ comma ∷ later) rest
  unfolding members_from sees
  complete_next n found a b more at before later rest comma says is named onward =
      let place = input (at + length before) (comma ∷ (later ++ rest)) in
      let stop = no_more (comma ∷ (later ++ rest)) (comma_no_open (lexeme_of comma) (is_same (lexeme_of comma) Comma is)) in
      let on = ap (λ there. if there then (eat Comma >>= (λ _. members_from n (found ++ a ∷ []))) place else Some (found ++ a ∷ [], place)) (comma_goes_on comma (at + length before) (later ++ rest) is named) in
      let eaten = ap (λ there. members_from n (found ++ a ∷ []) (after_if there place)) (is_same (lexeme_of comma) Comma is) in
      let answer = Some ((found ++ a ∷ []) ++ b ∷ more, input (((at + length before) + 1) + length later) rest) in
      let item = bind_is (member (input at (before ++ (comma ∷ (later ++ rest))))) (turn n found) a place answer (member_piece.complete a at before (comma ∷ (later ++ rest)) says stop) (on ∙ eaten ∙ onward) in
      let joined = subst (λ tokens. members_from (suc n) found (input at tokens) ≡ answer) (sym (append_assoc before (comma ∷ later) rest)) item in
      joined ∙ ap (λ all. Some (all, input (((at + length before) + 1) + length later) rest)) (regrouped found a b more)
      ∙ ap (λ place. Some (found ++ a ∷ b ∷ more, input place rest)) (after_comma at before later comma)

  -- a member begins with its name
  pub named_first : (a : CommonMember) (items : List CommonMember) (at : ℕ) (tokens rest : List Token) → (form.member a · after_commas form.member items) at tokens → begins (only Word) (tokens ++ rest) ≡ true
  named_first a items at tokens rest (before, after, split, (named, follow, split_member, (here, is_one, is_name), says_follow), says) =
      subst (λ tokens. begins (only Word) (tokens ++ rest) ≡ true) (sym (split ∙ ap (λ before. before ++ after) (split_member ∙ ap (λ named. named ++ follow) is_one))) (is_same (lexeme_of here) Word is_name.1)

  complete_from : (items : List CommonMember) (n : ℕ) (found : List CommonMember) (a : CommonMember) (at : ℕ) (tokens rest : List Token) → (form.member a · after_commas form.member items) at tokens
      → length tokens ≤ n → Stops rest → Reads n found (a ∷ items) at tokens rest
  complete_from items zero found a at tokens rest (before, after, split, says, says_rest) small stops =
      absurd (too_few tokens (grown tokens before after split (nonempty a at before says)) small)
  complete_from [] (suc n) found a at tokens rest (before, after, split, says, none) small stops =
      complete_last n found a at tokens rest (subst (λ tokens. form.member a at tokens) (none_left tokens before (split ∙ ap (λ after. before ++ after) none)) says) stops
  complete_from (b ∷ more) (suc n) found a at tokens rest (before, after, split, says, (commas_tokens, later, split_after, (comma, is_one, is_comma), says_later)) small stops =
      let whole = split ∙ ap (λ after. before ++ after) (split_after ∙ ap (λ one. one ++ later) is_one) in
      let place = ap (λ one. (at + length before) + length one) is_one in
      let says_b = subst (λ place. (form.member b · after_commas form.member more) place later) place says_later in
      let onward = complete_from more n (found ++ a ∷ []) b ((at + length before) + 1) later rest says_b (fewer_later n before later comma (subst (λ tokens. length tokens ≤ suc n) whole small)) stops in
      subst (λ tokens. Reads (suc n) found (a ∷ b ∷ more) at tokens rest) (sym whole)
      (complete_next n found a b more at before later rest comma says is_comma (named_first b more ((at + length before) + 1) later rest says_b) onward)

  pub members_complete : (all : List CommonMember) (at : ℕ) (tokens rest : List Token) → commas form.member all at tokens → Stops rest
      → members (input at (tokens ++ rest)) ≡ Some (all, input (at + length tokens) rest)
  members_complete [] at tokens rest says stops = absurd says
  members_complete (a ∷ items) at tokens rest says stops = complete_from items (length (tokens ++ rest)) [] a at tokens rest says (enough tokens rest) stops

  pub members_named : (all : List CommonMember) (at : ℕ) (tokens rest : List Token) → commas form.member all at tokens → begins (only Word) (tokens ++ rest) ≡ true
  members_named [] at tokens rest says = absurd says
  members_named (a ∷ items) at tokens rest says = named_first a items at tokens rest says
