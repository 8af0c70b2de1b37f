-- COMMON is read as it is written.
use Rattle.std.proofs.Common.{◌≡◌, refl, sym, ◌∙◌, ap, subst, arith, ℕ, zero, suc, ◌+◌, ◌≤◌, Bool, true, false, ◌&&◌, not, List, [], ◌∷◌, ◌++◌, length, Option, Some, append_assoc, ◌⊎◌, inl, inr, codes, if◌then◌else◌, add-zero, le_refl}
use Rattle.std.proofs.lemmas.List.{append-nil}
use Rattle.std.proofs.lemmas.Grind.{common_steps}
use Rattle.std.proofs.lemmas.Option.{some_pair_parts}
use Rattle.std.proofs.lemmas.Bool.{and_left}
use Rattle.std.proofs.Math.Bool.{and-false}
use denote.Hole.Carrier
use Rattle.ftn_tree.specs.declared.token.Token.{Token}
use Rattle.ftn_tree.specs.declared.form.Form.{out-Form}
use Rattle.ftn_tree.specs.declared.form.Form.TheOpen.{Form-F}
use Rattle.ftn_tree.specs.declared.form.Form.TheVariants as made
use Rattle.ftn_tree.specs.declared.parts.BlockName.{BlockName}
use Rattle.ftn_tree.specs.declared.parts.BlockName.TheVariants.{Unwritten, Blank, Named}
use Rattle.ftn_tree.specs.declared.parts.CommonGroup.{CommonGroup}
use Rattle.ftn_tree.specs.declared.parts.CommonMember.{CommonMember}
use Rattle.ftn_tree.specs.declared.lexeme.Lexeme.TheVariants.{Word, Comma, Open}
use Rattle.ftn_tree.specs.Lexemes.{lexeme_of, same_lexeme}
use Rattle.ftn_tree.specs.Phrases.{Phrase, nothing, provided, ◌·◌, mark, whether, commas}
use Rattle.ftn_tree.specs.UnitForms.{unit_form_at}
use Rattle.ftn_tree.specs.SpecificationForms as form
use Rattle.ftn_tree.specs.SpecificationForms.{declaration_at}
use Rattle.expr_parse.specs.steps.Input.{Input, input, Reader, pure, ◌>>=◌, sees, is_done, done_at, peek_second}
use Rattle.expr_parse.specs.steps.Combinators.{◌⊗◌}
use Rattle.expr_parse.proofs.Pieces.{Piece, Took, Apart, begins, bind_some, bind_is, took_both, seq, apart_from}
use Rattle.expr_parse.proofs.AllKinds.{apart}
use Rattle.expr_parse.proofs.Tokens.{only, after_word, is_same}
use Rattle.expr_parse.proofs.Ends.{any, no_rest}
use Rattle.expr_parse.proofs.Operands.{ReadsExpressions}
use Rattle.spec_parse.specs.steps.Blocks as spec
use Rattle.spec_parse.specs.steps.Blocks.{members, goes_on, is_slash_at, first_group, later_group, groups_from, all_groups, groups, common}
use Rattle.spec_parse.proofs.Flags.{flag}
use Rattle.ftn_tree.proofs.PhraseLaws.{to_right, to_left, add_none, drop_none, placed}
use Rattle.spec_parse.proofs.Wholes.{Sound, GivesForm, row_sound, row_complete}
use Rattle.spec_parse.proofs.Members.{is_slash, slash_is, Stops, members_sound, members_complete, members_named, comma_no_open}
use Rattle.spec_parse.proofs.Groups.{block_text, block_piece, block_begins, first_piece}
use Rattle.expr_parse.proofs.TokenRows.{none_fits, fewer_after}

-- ---- what follows a group

comma_no_slash : Apart is_slash (only Comma)
unfolding same_lexeme
comma_no_slash = apart is_slash (only Comma) refl

slash_no_open : Apart is_slash (only Open)
unfolding same_lexeme
slash_no_open = apart is_slash (only Open) refl

right_false : (a b : Bool) → b ≡ true → (a && not b) ≡ false
right_false a true e = and-false a
right_false a false e = absurd (cc e)

no_comma : (at : ℕ) (tokens : List Token) → begins (only Comma) tokens ≡ false → goes_on (input at tokens) ≡ false
unfolding sees
no_comma at [] e = refl
no_comma at (here ∷ rest) e = and_left (same_lexeme (lexeme_of here) Comma) (not (is_slash_at (peek_second (input at (here ∷ rest))))) e

-- no member follows a slash
slash_stops : (tokens : List Token) → begins is_slash tokens ≡ true → Stops tokens
slash_stops tokens e = (apart_from is_slash (only Open) tokens slash_no_open e, λ at. no_comma at tokens (apart_from is_slash (only Comma) tokens comma_no_slash e))

slash_second : (comma : Token) (at : ℕ) (tokens : List Token) → begins is_slash tokens ≡ true → goes_on (input at (comma ∷ tokens)) ≡ false
unfolding peek_second
slash_second comma at [] e = absurd (cc e)
slash_second comma at (next ∷ rest) e = right_false (sees Comma (input at (comma ∷ next ∷ rest))) (is_slash_at (Some (lexeme_of next))) (slash_is (lexeme_of next) ∙ e)

-- nor a comma and a slash
comma_stops : (comma : Token) (tokens : List Token) → only Comma (lexeme_of comma) ≡ true → begins is_slash tokens ≡ true → Stops (comma ∷ tokens)
comma_stops comma tokens is e = (comma_no_open (lexeme_of comma) is, λ at. slash_second comma at tokens e)

nothing_stops : Stops []
nothing_stops = (refl, λ at. no_comma at [] refl)

written : (b : BlockName) (at : ℕ) (tokens : List Token) → block_text b at tokens → (form.is_written b ≡ true) × form.block_name b at tokens
written Unwritten at tokens says = absurd says
written (Blank slash joined) at tokens says = (refl, says)
written (Named slash n) at tokens says = (refl, says)

as_written : (b : BlockName) (at : ℕ) (tokens : List Token) → form.is_written b ≡ true → form.block_name b at tokens → block_text b at tokens
as_written Unwritten at tokens is says = absurd (cc is)
as_written (Blank slash joined) at tokens is says = says
as_written (Named slash n) at tokens is says = says

abbrev later_text : CommonGroup → Phrase
later_text g = provided (form.is_written g.block) (form.group g)

group_stops : (g : CommonGroup) (at : ℕ) (tokens rest : List Token) → later_text g at tokens → Stops (tokens ++ rest)
group_stops g at tokens rest (is, (before, both, split, says_comma, (middle, after, split_both, says_block, says_members))) =
    subst (λ tokens. Stops (tokens ++ rest)) (sym (split ∙ ap (λ both. before ++ both) split_both)) (by g.comma says_comma) where
      slash_next : begins is_slash ((middle ++ after) ++ rest) ≡ true
      slash_next = subst (λ tokens. begins is_slash tokens ≡ true) (sym (append_assoc middle after rest))
          (block_begins g.block (at + length before) middle (after ++ rest) (as_written g.block (at + length before) middle is says_block))

      by : (comma : Bool) → whether comma (mark Comma) at before → Stops ((before ++ (middle ++ after)) ++ rest)
      by true (here, is_one, is_comma) = subst (λ before. Stops ((before ++ (middle ++ after)) ++ rest)) (sym is_one)
          (comma_stops here ((middle ++ after) ++ rest) (is_same (lexeme_of here) Comma is_comma) slash_next)
      by false none = subst (λ before. Stops ((before ++ (middle ++ after)) ++ rest)) (sym none) (slash_stops ((middle ++ after) ++ rest) slash_next)

later_stops : (items : List CommonGroup) (at : ℕ) (tokens : List Token) → form.later_groups items at tokens → Stops tokens
later_stops [] at tokens says = subst (λ tokens. Stops tokens) (sym says) nothing_stops
later_stops (g ∷ items) at tokens (before, after, split, says, says_rest) = subst (λ tokens. Stops tokens) (sym split) (group_stops g at before after says)

module _ (laws : ReadsExpressions) where
  -- ---- a head and members

  module _ {A : Type 0} (head : Piece A) (no_name : Apart (only Word) head.more) where
    abbrev with_members : Reader (A × List CommonMember)
    with_members = head.read ⊗ members

    headed_sound : (i : Input) (both : A × List CommonMember) (j : Input) → (head.read ⊗ members) i ≡ Some (both, j) → Took (head.phrase both.0 · commas form.member both.1) i j
    headed_sound i both j e =
        let (a, k, read, next) = bind_some (head.read i) (λ a. members >>= (λ all. pure (a, all))) both j e in
        let (all, l, read_all, gives) = bind_some (members k) (λ all. pure (a, all)) both j next in
        let same = some_pair_parts (a, all) both l j gives in
        let took = took_both (head.phrase a) (commas form.member all) i k l (head.sound i a k read) (members_sound laws k all l read_all) in
        subst (λ both. Took (head.phrase both.0 · commas form.member both.1) i j) same.0 (subst (λ j. Took (head.phrase a · commas form.member all) i j) same.1 took)

    headed_complete : (a : A) (all : List CommonMember) (at : ℕ) (tokens rest : List Token) → (head.phrase a · commas form.member all) at tokens → Stops rest
        → (head.read ⊗ members) (input at (tokens ++ rest)) ≡ Some ((a, all), input (at + length tokens) rest)
    headed_complete a all at tokens rest (before, after, split, says, says_members) stops =
        let place = input (at + length before) (after ++ rest) in
        let end = input ((at + length before) + length after) rest in
        let stop = apart_from (only Word) head.more (after ++ rest) no_name (members_named laws all (at + length before) after rest says_members) in
        let read = head.complete a at before (after ++ rest) says stop in
        let read_all = members_complete laws all (at + length before) after rest says_members stops in
        let ends = bind_is (members place) (λ all. pure (a, all)) all end (Some ((a, all), end)) read_all refl in
        let whole = bind_is (head.read (input at (before ++ (after ++ rest)))) (λ a. members >>= (λ all. pure (a, all))) a place (Some ((a, all), end)) read ends in
        let joined = subst (λ tokens. (head.read ⊗ members) (input at tokens) ≡ Some ((a, all), end)) (sym (append_assoc before after rest)) whole in
        let placed_at = subst (λ place. (head.read ⊗ members) (input at ((before ++ after) ++ rest)) ≡ Some ((a, all), input place rest)) (placed at before after) joined in
        subst (λ tokens. (head.read ⊗ members) (input at (tokens ++ rest)) ≡ Some ((a, all), input (at + length tokens) rest)) (sym split) placed_at

  pub word_no_first : Apart (only Word) first_piece.more
  unfolding same_lexeme
  word_no_first = apart (only Word) first_piece.more refl

  pub block_no_comma : Apart block_piece.first (flag Comma).more
  unfolding same_lexeme
  block_no_comma = apart block_piece.first (flag Comma).more refl

  abbrev pub later_head : Piece (Bool × BlockName)
  later_head = seq (flag Comma) block_piece block_no_comma

  pub word_no_later : Apart (only Word) later_head.more
  unfolding same_lexeme
  word_no_later = apart (only Word) later_head.more refl

  -- ---- the first group

  abbrev first_text : CommonGroup → Phrase
  first_text g = provided (not g.comma) (form.group g)

  first_sound : (i : Input) (g : CommonGroup) (j : Input) → first_group i ≡ Some (g, j) → Took (first_text g) i j
  unfolding first_group
  first_sound i g j e =
      let (both, k, read, gives) = bind_some ((first_piece.read ⊗ members) i) (λ both. pure (spec.first_of both)) g j e in
      let same = some_pair_parts (spec.first_of both) g k j gives in
      let took = headed_sound first_piece word_no_first i both k read in
      subst (λ g. Took (first_text g) i j) same.0 (subst (λ j. Took (first_text (spec.first_of both)) i j) same.1
      (record { tokens = took.tokens; rest = took.rest; at = took.at; says = (refl, add_none (form.block_name both.0 · commas form.member both.1) i.at took.tokens took.says) }))

  first_by : (comma : Bool) (block : BlockName) (all : List CommonMember) (at : ℕ) (tokens rest : List Token) → first_text (spec.group_of comma block all) at tokens → Stops rest
      → first_group (input at (tokens ++ rest)) ≡ Some (spec.group_of comma block all, input (at + length tokens) rest)
  unfolding first_group
  first_by true block all at tokens rest (is, says) stops = absurd (cc is)
  first_by false block all at tokens rest (is, says) stops =
      bind_is ((first_piece.read ⊗ members) (input at (tokens ++ rest))) (λ both. pure (spec.first_of both)) (block, all) (input (at + length tokens) rest) (Some (spec.group_of false block all, input (at + length tokens) rest))
      (headed_complete first_piece word_no_first block all at tokens rest (drop_none (form.block_name block · commas form.member all) at tokens says) stops) refl

  -- ---- a later group

  written_group : (parts : (Bool × BlockName) × List CommonMember) (at : ℕ) (tokens : List Token) → (later_head.phrase parts.0 · commas form.member parts.1) at tokens → later_text (spec.later_of parts) at tokens
  written_group parts at tokens (both, after, split, (before, middle, split_both, says_comma, says_block), says_members) =
      let (is, says_name) = written parts.0.1 (at + length before) middle says_block in
      (is, to_right (whether parts.0.0 (mark Comma)) (form.block_name parts.0.1) (commas form.member parts.1) at tokens (both, after, split, (before, middle, split_both, says_comma, says_name), says_members))

  later_sound : (i : Input) (g : CommonGroup) (j : Input) → later_group i ≡ Some (g, j) → Took (later_text g) i j
  unfolding later_group
  later_sound i g j e =
      let (parts, k, read, gives) = bind_some ((later_head.read ⊗ members) i) (λ parts. pure (spec.later_of parts)) g j e in
      let same = some_pair_parts (spec.later_of parts) g k j gives in
      let took = headed_sound later_head word_no_later i parts k read in
      subst (λ g. Took (later_text g) i j) same.0 (subst (λ j. Took (later_text (spec.later_of parts)) i j) same.1
      (record { tokens = took.tokens; rest = took.rest; at = took.at; says = written_group parts i.at took.tokens took.says }))

  group_written : (g : CommonGroup) (at : ℕ) (tokens : List Token) → later_text g at tokens → (later_head.phrase (g.comma, g.block) · commas form.member g.members) at tokens
  group_written g at tokens (is, (before, both, split, says_comma, (middle, after, split_both, says_block, says_members))) =
      to_left (whether g.comma (mark Comma)) (block_text g.block) (commas form.member g.members) at tokens
      (before, both, split, says_comma, (middle, after, split_both, as_written g.block (at + length before) middle is says_block, says_members))

  later_complete : (g : CommonGroup) (at : ℕ) (tokens rest : List Token) → later_text g at tokens → Stops rest → later_group (input at (tokens ++ rest)) ≡ Some (g, input (at + length tokens) rest)
  unfolding later_group
  later_complete g at tokens rest says stops =
      bind_is ((later_head.read ⊗ members) (input at (tokens ++ rest))) (λ parts. pure (spec.later_of parts)) ((g.comma, g.block), g.members) (input (at + length tokens) rest) (Some (g, input (at + length tokens) rest))
      (headed_complete later_head word_no_later (g.comma, g.block) g.members at tokens rest (group_written g at tokens says) stops) refl

  -- ---- all groups

  record Found (found all : List CommonGroup) (i j : Input) : Type 0 where
    items : List CommonGroup
    is : all ≡ found ++ items
    took : Took (form.later_groups items) i j

  none_found : (found all : List CommonGroup) (i j : Input) → ◌≡◌ {A = Option (List CommonGroup × Input)} (Some (found, i)) (Some (all, j)) → Found found all i j
  none_found found all i j e =
      let same = some_pair_parts found all i j e in
      record {
        items = [];
        is = sym same.0 ∙ sym (append-nil found);
        took = subst (λ j. Took nothing i j) same.1 (record { tokens = []; rest = refl; at = sym (add-zero i.at); says = refl });
      }

  abbrev turn : ℕ → List CommonGroup → Bool → Reader (List CommonGroup)
  turn n found done i = if done then Some (found, i) else (later_group >>= (λ next. groups_from n (found ++ next ∷ []))) i

  groups_sound : (n : ℕ) (found all : List CommonGroup) (i j : Input) → groups_from n found i ≡ Some (all, j) → Found found all i j
  unfolding groups_from
  groups_sound zero found all i j e = none_found found all i j e
  groups_sound (suc n) found all i j e = by (λ g k. groups_sound n (found ++ g ∷ []) all k j) (is_done i) refl where
    by : ((g : CommonGroup) (k : Input) → groups_from n (found ++ g ∷ []) k ≡ Some (all, j) → Found (found ++ g ∷ []) all k j) → (done : Bool) → is_done i ≡ done → Found found all i j
    by onward true is = none_found found all i j (sym (ap (λ done. turn n found done i) is) ∙ e)
    by onward false is =
        let (g, k, read, rest) = bind_some (later_group i) (λ next. groups_from n (found ++ next ∷ [])) all j (sym (ap (λ done. turn n found done i) is) ∙ e) in
        let later = onward g k rest in
        record {
          items = g ∷ later.items;
          is = later.is ∙ append_assoc found (g ∷ []) later.items;
          took = took_both (later_text g) (form.later_groups later.items) i k j (later_sound i g k read) later.took;
        }

  abbrev Reads : ℕ → List CommonGroup → List CommonGroup → ℕ → List Token → Type 0
  Reads n found items at tokens = groups_from n found (input at tokens) ≡ Some (found ++ items, input (at + length tokens) [])

  read_none : (n : ℕ) (found : List CommonGroup) (at : ℕ) → Reads n found [] at []
  unfolding groups_from is_done
  read_none zero found at = ap (λ found. Some (found, input at [])) (sym (append-nil found)) ∙ ap (λ place. Some (found ++ [], input place [])) (sym (add-zero at))
  read_none (suc n) found at = ap (λ found. Some (found, input at [])) (sym (append-nil found)) ∙ ap (λ place. Some (found ++ [], input place [])) (sym (add-zero at))

  -- a group takes a token at least
  nonempty : (g : CommonGroup) (at : ℕ) (tokens rest : List Token) → later_text g at tokens → done_at (tokens ++ rest) ≡ false
  nonempty g at tokens rest says = not_done (tokens ++ rest) (some_token (group_written g at tokens says)) where
    not_done : (tokens : List Token) → (begins any tokens ≡ true) → done_at tokens ≡ false
    not_done [] e = absurd (cc e)
    not_done (here ∷ rest) e = refl

    some_token : (later_head.phrase (g.comma, g.block) · commas form.member g.members) at tokens → begins any (tokens ++ rest) ≡ true
    some_token (before, after, split, says, says_members) = subst (λ tokens. begins any (tokens ++ rest) ≡ true) (sym split) (two before after (members_named laws g.members (at + length before) after [] says_members)) where
      two : (before after : List Token) → begins (only Word) (after ++ []) ≡ true → begins any ((before ++ after) ++ rest) ≡ true
      two [] [] e = absurd (cc e)
      two [] (here ∷ after) e = refl
      two (here ∷ before) after e = refl

  grown : (g : CommonGroup) (at : ℕ) (tokens : List Token) → later_text g at tokens → 1 ≤ length tokens
  grown g at tokens says = by tokens (nonempty g at tokens [] says) where
    by : (tokens : List Token) → done_at (tokens ++ []) ≡ false → 1 ≤ length tokens
    by [] e = absurd (cc e)
    by (here ∷ tokens) e = grind (arith, common_steps)

  read_next : (n : ℕ) (found : List CommonGroup) (g : CommonGroup) (items : List CommonGroup) (at : ℕ) (before after : List Token) → later_text g at before → Stops after
      → Reads n (found ++ g ∷ []) items (at + length before) after → Reads (suc n) found (g ∷ items) at (before ++ after)
  unfolding groups_from is_done
  read_next n found g items at before after says stops onward =
      let answer = Some ((found ++ g ∷ []) ++ items, input ((at + length before) + length after) []) in
      let group = bind_is (later_group (input at (before ++ after))) (λ next. groups_from n (found ++ next ∷ [])) g (input (at + length before) after) answer (later_complete g at before after says stops) onward in
      ap (λ done. turn n found done (input at (before ++ after))) (nonempty g at before after says) ∙ group
      ∙ ap (λ all. Some (all, input ((at + length before) + length after) [])) (append_assoc found (g ∷ []) items)
      ∙ ap (λ place. Some (found ++ g ∷ items, input place [])) (placed at before after)

  groups_complete : (items : List CommonGroup) (n : ℕ) (found : List CommonGroup) (at : ℕ) (tokens : List Token) → form.later_groups items at tokens → length tokens ≤ n → Reads n found items at tokens
  groups_complete [] n found at tokens says small = subst (λ tokens. Reads n found [] at tokens) (sym says) (read_none n found at)
  groups_complete (g ∷ items) zero found at tokens (before, after, split, says, says_rest) small =
      absurd (none_fits before after (grown g at before says) (subst (λ tokens. length tokens ≤ 0) split small))
  groups_complete (g ∷ items) (suc n) found at tokens (before, after, split, says, says_rest) small =
      subst (λ tokens. Reads (suc n) found (g ∷ items) at tokens) (sym split)
      (read_next n found g items at before after says (later_stops items (at + length before) after says_rest)
      (groups_complete items n (found ++ g ∷ []) (at + length before) after says_rest (fewer_after n before after (grown g at before says) (subst (λ tokens. length tokens ≤ suc n) split small))))

  -- ---- the statement

  pub all_begun : (all : List CommonGroup) (at : ℕ) (tokens : List Token) → form.groups all at tokens → (begins any tokens ≡ true) ⊎ ((tokens ≡ []) × (true ≡ true))
  all_begun all at [] says = inr (refl, refl)
  all_begun all at (here ∷ tokens) says = inl refl

  all_taken : (first : CommonGroup) (all items : List CommonGroup) (i k j : Input) → all ≡ first ∷ items → Took (first_text first) i k → Took (form.later_groups items) k j → Took (form.groups all) i j
  all_taken first all items i k j is took later =
      let both = took_both (first_text first) (form.later_groups items) i k j took later in
      subst (λ all. Took (form.groups all) i j) (sym is) (record { tokens = both.tokens; rest = both.rest; at = both.at; says = both.says })

  pub all_sound : (i : Input) (all : List CommonGroup) (j : Input) → groups i ≡ Some (all, j) → Took (form.groups all) i j
  all_sound i all j e =
      let (first, k, read, rest) = bind_some (first_group i) all_groups all j e in
      let found = groups_sound (length k.rest) (first ∷ []) all k j rest in
      all_taken first all found.items i k j found.is (first_sound i first k read) found.took

  all_read : (first : CommonGroup) (items : List CommonGroup) (at : ℕ) (before after : List Token) → first_text first at before → form.later_groups items (at + length before) after
      → groups (input at (before ++ after)) ≡ Some (first ∷ items, input (at + length (before ++ after)) [])
  all_read first items at before after says says_rest =
      let one = first_by first.comma first.block first.members at before after says (later_stops items (at + length before) after says_rest) in
      let rest = groups_complete items (length after) (first ∷ []) (at + length before) after says_rest (le_refl (length after)) in
      bind_is (first_group (input at (before ++ after))) all_groups first (input (at + length before) after) (Some (first ∷ items, input (at + length (before ++ after)) [])) one
      (rest ∙ ap (λ place. Some (first ∷ items, input place [])) (placed at before after))

  pub all_complete : (all : List CommonGroup) (at : ℕ) (tokens rest : List Token) → form.groups all at tokens → begins any rest ≡ false → groups (input at (tokens ++ rest)) ≡ Some (all, input (at + length tokens) rest)
  all_complete [] at tokens rest says stops = absurd says
  all_complete (first ∷ items) at tokens rest (before, after, split, says, says_rest) stops =
      let read = subst (λ tokens. groups (input at tokens) ≡ Some (first ∷ items, input (at + length tokens) [])) (sym split) (all_read first items at before after says says_rest) in
      subst (λ rest. groups (input at (tokens ++ rest)) ≡ Some (first ∷ items, input (at + length tokens) rest)) (sym (no_rest rest stops))
      (subst (λ all. groups (input at all) ≡ Some (first ∷ items, input (at + length tokens) [])) (sym (append-nil tokens)) read)

  -- all groups, to the end of the statement
  abbrev pub groups_piece : Piece (List CommonGroup)
  groups_piece = record {
    phrase = form.groups;
    read = groups;
    first = any;
    empty = true;
    more = any;
    begun = all_begun;
    sound = all_sound;
    complete = all_complete;
  }

  abbrev pub common_parts : Piece (List CommonGroup)
  common_parts = after_word (codes "common") groups_piece

  common_made : (a : List CommonGroup) (at : ℕ) (tokens : List Token) → common_parts.phrase a at tokens → unit_form_at (out-Form (made.Common a)) at tokens
  unfolding out-Form denote.Hole.Carrier.out
  common_made a at tokens says = says

  pub common_sound : Sound common
  unfolding common
  common_sound = row_sound common_parts made.Common common_made

  pub common_complete : (all : List CommonGroup) (at : ℕ) (tokens : List Token) → declaration_at (Form-F.Common all) at tokens → GivesForm common at tokens (made.Common all)
  unfolding common
  common_complete all at tokens says = row_complete common_parts made.Common all at tokens says
